-- The disputes of a plain ledger: the entries that are not alone in their identity, where none
-- was chosen.
use Rattle.std.proofs.Common.{◌≡◌, ℕ, List, [], ◌∷◌, length, sym, ap, ◌∙◌, true, false, Bool, not}
use Rattle.std.proofs.Common.{◌&&◌, Option, Some, cond, map, arith, get_or, count_by, filter, find}
use Rattle.std.proofs.Common.{All, nat_eq, nat_le, nat_lt, filter_map, option_map}
use Rattle.std.specs.Map.{keys_of}
use Rattle.book_model.proofs.Std.{IsStrictlySortedBy, nat_tests, nat_list_cmp_total}
use Rattle.book_model.proofs.Std.{nat_list_eq_equiv, length-map, All-filter, All-head, All-tail}
use Rattle.book_model.proofs.Std.{list_any_at, IsStrictlySortedBy-filter, length-filter}
use Rattle.book_model.proofs.Std.{exact_bytes, map-map}
use Rattle.book_model.specs.declared.dispute.Dispute.{Dispute}
use Rattle.book_model.specs.declared.dispute.Variant.{Variant}
use Rattle.book_model.specs.Words.{identity_by, by_name, variant_of, identities, records_of}
use Rattle.book_model.specs.Words.{dispute_at, disputes_in, is_in_dispute, is_settled, Naming}
use Rattle.book_model.specs.Words.{by_bytes, same_bytes, Rulings, set_of, members, IsDispute}
use Rattle.book_model.specs.Words.{ShowsDispute, dispute_shown}
use Rattle.plain_ledger.specs.Plain.{Entry, entry_records, held_in, AreBooked, is_alone, variant_at}
use Rattle.plain_ledger.specs.Plain.{dispute_among, disputes_among, entry_identity}
use Rattle.plain_ledger.specs.Plain.{entry_has_identity, is_disputed, is_shared}
use Rattle.plain_ledger.proofs.HeldLemmas.{bytes_of, records_rise, held-alike, each_priced}
use Rattle.plain_ledger.proofs.HeldLemmas.{each_named}
use Rattle.book_core.proofs.NamedLemmas.{by_name_total, by_name_exact}
use Rattle.book_model.proofs.Lemmas.{filter-map, filter-agree, filter_map-map, filter_map-defined}
use Rattle.book_model.proofs.Lemmas.{members-those, set_of-alike, list_any-count_by, filter-alike}
use Rattle.book_model.proofs.Lemmas.{map-alike}
use Rattle.book_model.proofs.SetLemmas.{members-set_of, those-set_of}

-- two or more are some, and not one
two_or_more : (n : ℕ) → nat_lt 0 n ≡ true → nat_le 2 n ≡ not (nat_eq n 1)
two_or_more n some = grind (arith, nat_tests)

-- an entry is not alone where two or more have its identity
pub shared-not_alone : (rulings : Rulings) (entries : List Entry)
    → All (λ (entry : Entry).
    is_shared rulings entries (entry_identity rulings entry)
    ≡ not (is_alone rulings entries entry)) entries
shared-not_alone rulings entries k d within =
    let identity = entry_identity rulings (get_or entries k d) in
    let theirs : Entry → Bool = entry_has_identity rulings identity in
    let itself = list_any_at theirs entries k d within (nat_list_eq_equiv.refl identity) in
    two_or_more (count_by theirs entries) (sym (list_any-count_by theirs entries) ∙ itself)

module _ {naming : Naming} {rulings : Rulings} {entries : List Entry} {total : ℕ}
    (kept : AreBooked naming rulings entries total)
    (rising : IsStrictlySortedBy by_bytes (keys_of entries)) where
  -- the records of an identity, by name, are those of the entries that have it
  records_of-held : (identity : List ℕ)
      → records_of naming rulings (held_in entries) identity
      ≡ map bytes_of (filter (entry_has_identity rulings identity) entries)
  records_of-held identity =
      let theirs : List ℕ → Bool = λ bytes. same_bytes (identity_by rulings bytes) identity in
      let alike = filter-alike theirs (held-alike kept rising) in
      let all = entry_records entries in
      let rise = IsStrictlySortedBy-filter (by_name naming) theirs all (records_rise kept rising) in
      ap members (set_of-alike (by_name_total naming) (by_name_exact naming) alike)
      ∙ members-set_of (by_name_total naming) (filter theirs all) rise
      ∙ filter-map theirs bytes_of entries

  -- each entry shows its record as the list of disputes does
  each_shown :
      All (λ (entry : Entry).
      variant_of naming rulings (bytes_of entry) ≡ Some (variant_at entry)) entries
  each_shown k d within =
      let name = sym (each_named kept k d within) in
      let price = each_priced kept k d within in
      λ i. option_map (λ priced.
      record (variant_at (get_or entries k d)) { name = name i; priced = priced }) (price i)

  -- the dispute of an identity
  pub dispute_at-held : (identity : List ℕ)
      → dispute_at naming rulings (held_in entries) identity
      ≡ dispute_among rulings entries identity
  dispute_at-held identity =
      let shown : List ℕ → Option Variant = variant_of naming rulings in
      let own : Entry → Option Variant = λ entry. shown (bytes_of entry) in
      let IsShown : Entry → Type 0 = λ entry. own entry ≡ Some (variant_at entry) in
      let theirs : Entry → Bool = entry_has_identity rulings identity in
      let each = All-filter theirs IsShown entries each_shown in
      let variants =
      ap (filter_map shown) (records_of-held identity)
      ∙ filter_map-map shown bytes_of (filter theirs entries)
      ∙ filter_map-defined own variant_at (filter theirs entries) each in
      λ i. record { identity = identity; members = variants i }

  -- an entry's identity is in dispute where the entry is
  each_disputed :
      All (λ (entry : Entry).
      is_in_dispute naming rulings (held_in entries) (entry_identity rulings entry)
      ≡ is_disputed rulings entries entry) entries
  each_disputed k d within =
      let identity = entry_identity rulings (get_or entries k d) in
      let theirs : Entry → Bool = entry_has_identity rulings identity in
      ap (λ b. b && not (is_settled rulings identity))
      (ap (λ records. nat_le 2 (length records)) (records_of-held identity)
      ∙ ap (nat_le 2) (length-map (filter theirs entries) bytes_of)
      ∙ ap (nat_le 2) (length-filter theirs entries)
      ∙ shared-not_alone rulings entries k d within)

  -- the identities in dispute are those of such entries
  identities-held :
      filter (is_in_dispute naming rulings (held_in entries))
      (identities rulings (held_in entries))
      ≡ members (set_of by_bytes
      (map (entry_identity rulings) (filter (is_disputed rulings entries) entries)))
  identities-held =
      let disputed : List ℕ → Bool = is_in_dispute naming rulings (held_in entries) in
      let known : Entry → List ℕ = entry_identity rulings in
      let shared : Entry → Bool = is_disputed rulings entries in
      let own : List ℕ → List ℕ = identity_by rulings in
      let of_held : List (List ℕ) = map own (members (held_in entries)) in
      let alike = filter-alike disputed (map-alike own (held-alike kept rising)) in
      let listed : map own (entry_records entries) ≡ map known entries =
      map-map own bytes_of entries in
      let agree = filter-agree (λ entry. disputed (known entry)) shared entries each_disputed in
      sym (members-those nat_list_cmp_total exact_bytes disputed (set_of by_bytes of_held))
      ∙ ap members (those-set_of nat_list_cmp_total exact_bytes disputed of_held)
      ∙ ap members (set_of-alike nat_list_cmp_total exact_bytes alike)
      ∙ ap (λ all. members (set_of by_bytes (filter disputed all))) listed
      ∙ ap (λ all. members (set_of by_bytes all)) (filter-map disputed known entries)
      ∙ ap (λ all. members (set_of by_bytes (map known all))) agree

  -- the disputes among the records that are held are those among the entries
  pub disputes_in-held :
      disputes_in naming rulings (held_in entries) ≡ disputes_among rulings entries
  disputes_in-held = λ i. map (λ identity. dispute_at-held identity i) (identities-held i)

-- of disputes that can be shown one that is found can be
pub found_shows : (p : Dispute → Bool) (found : List Dispute)
    → All IsDispute (map dispute_shown found) → ShowsDispute (find p found)
found_shows p [] shown = tt
found_shows p (one ∷ found) shown =
    elim (p one) as (λ b. ShowsDispute (cond b (Some one) (find p found))) [
      | true ↦ All-head IsDispute (dispute_shown one) (map dispute_shown found) shown
      | false ↦ found_shows p found
          (All-tail IsDispute (dispute_shown one) (map dispute_shown found) shown)
    ]
