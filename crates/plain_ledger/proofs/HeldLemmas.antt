-- What the entries of a plain ledger hold: records by their names, each with its price.
use Rattle.std.proofs.Common.{◌≡◌, ℕ, ◌+◌, ◌<◌, ◌≤◌, List, [], ◌∷◌, length, refl, sym, ap, ◌∙◌}
use Rattle.std.proofs.Common.{subst, true, false, Bool, ◌&&◌, Option, Some, None, map, is_some}
use Rattle.std.proofs.Common.{arith, sum_by, All, Ordering, Less}
use Rattle.std.specs.BTreeMap.{is_at, insert_entry}
use Rattle.std.specs.List.Sorted.{IsStrictlySortedBy}
use Rattle.std.specs.Map.{keys_of}
use Rattle.std.proofs.lemmas.Bool.{and_right}
use Rattle.std.proofs.lemmas.Map.Made.{is_some-lookup}
use Rattle.book_model.proofs.Std.{texts_ties, bytes_decides, list_any, AllByRecursion, IsDistinct}
use Rattle.book_model.proofs.Std.{option_map_or, eq_by_cmp, ordering_then, nat_list_cmp_total}
use Rattle.book_model.proofs.Std.{nat_list_eq_equiv, eq_by_cmp_equiv, length-map, All-weaker}
use Rattle.book_model.proofs.Std.{fold-map, sum_by-cons, IsDistinct-from_sorted, exact_bytes}
use Rattle.book_model.proofs.Std.{map-map}
use Rattle.plain_ledger.specs.declared.held.HeldRecord.{HeldRecord}
use Rattle.book_model.specs.Words.{Priced, most_held, most_cost, by_name, Naming, name_of, by_bytes}
use Rattle.book_model.specs.Words.{same_bytes, Rulings, price_in, members, has, with, clashes}
use Rattle.book_model.specs.Words.{total_of}
use Rattle.plain_ledger.specs.Plain.{Entry, AreBooked, entry_records, held_in, record_of}
use Rattle.plain_ledger.specs.Treatments.{under_name}
use Rattle.book_core.proofs.EntryLemmas.{list_any-at_key}
use Rattle.plain_ledger.proofs.EntryLemmas.{insert_entry-alike, All-insert_entry}
use Rattle.book_model.proofs.ListLemmas.{agree_from_map, list_any-agree}
use Rattle.book_model.proofs.Lemmas.{map-agree, list_any-map, filter_map-defined, filter_map-map}
use Rattle.book_model.proofs.Lemmas.{set_of-alike, SumsAlike, length-alike, filter_map-alike}
use Rattle.book_model.proofs.Lemmas.{map-alike}
use Rattle.book_model.proofs.SetLemmas.{has-texts, any-members, members-alike, same_ties}
use Rattle.book_core.proofs.NamedLemmas.{by_name_total, by_name_exact}

-- an entry's record
abbrev pub bytes_of : Entry → List ℕ
bytes_of entry = record_of entry.1

-- with an entry more, under a name that none has, its record is held too
pub held_in-more : (entries : List Entry) (name : List ℕ) (h : HeldRecord)
    → under_name name entries ≡ None
    → held_in (insert_entry by_bytes entries name h) ≡ with (held_in entries) (record_of h)
held_in-more entries name h missing =
    let more = insert_entry-alike by_bytes name h entries missing in
    set_of-alike nat_list_cmp_total exact_bytes (map-alike bytes_of more)

-- what rises by a function of its elements rises by that function and then any order
rises_then : {X K : Type 0} (f : X → K) (R : K → K → Ordering) (S : X → X → Ordering) (xs : List X)
    → IsStrictlySortedBy R (map f xs)
    → IsStrictlySortedBy (λ a b. ordering_then (R (f a) (f b)) (S a b)) xs
unfolding IsStrictlySortedBy
rises_then f R S [] rising = tt
rises_then {X} f R S (x ∷ xs) rising = (all_above xs rising.0, rises_then f R S xs rising.1)
  where
    all_above : (ys : List X) → AllByRecursion (λ y. R (f x) y ≡ Less) (map f ys)
        → AllByRecursion (λ y. ordering_then (R (f x) (f y)) (S x y) ≡ Less) ys
    all_above [] above = tt
    all_above (y ∷ ys) above = (ap (λ r. ordering_then r (S x y)) above.0, all_above ys above.1)

-- an entry's record is a given one only where the entry is under that one's name
same_record : (naming : Naming) (bytes name : List ℕ) → name ≡ name_of naming bytes
    → (entry : Entry) → entry.0 ≡ name_of naming (bytes_of entry)
    → same_bytes bytes (bytes_of entry)
    ≡ (eq_by_cmp by_bytes name entry.0 && same_bytes (bytes_of entry) bytes)
same_record naming bytes name is entry named =
    let own = bytes_of entry in
    nat_list_eq_equiv.symm bytes own
    ∙ elim (same_bytes own bytes) as (λ b.
    same_bytes own bytes ≡ b → b ≡ (eq_by_cmp by_bytes name entry.0 && b)) [
      | true ↦ λ same.
          let its_name = named ∙ ap (name_of naming) ((bytes_decides own bytes).0 same) ∙ sym is in
          let tied = (eq_by_cmp_equiv nat_list_cmp_total).refl name in
          ap (λ b. b && true) (sym (ap (eq_by_cmp by_bytes name) its_name ∙ tied))
      | false ↦ λ other. sym (and_right (eq_by_cmp by_bytes name entry.0) false refl)
    ] refl

module _ {naming : Naming} {rulings : Rulings} {entries : List Entry} {total : ℕ}
    (kept : AreBooked naming rulings entries total) where
  -- each entry is under its record's name
  pub each_named : All (λ (entry : Entry). entry.0 ≡ name_of naming (bytes_of entry)) entries
  each_named =
      let named = kept.named ∙ map-map (name_of naming) bytes_of entries in
      agree_from_map (λ entry. entry.0) (λ entry. name_of naming (bytes_of entry)) entries named

  -- each entry has its record's price
  pub each_priced :
      All (λ (entry : Entry).
      price_in rulings (bytes_of entry) ≡ Some entry.1.priced) entries
  each_priced =
      let price : List ℕ → Option Priced = price_in rulings in
      let priced = sym (kept.priced ∙ map-map price bytes_of entries) in
      agree_from_map (λ entry. price (bytes_of entry)) (λ entry. Some entry.1.priced) entries priced

  -- An entry more, under the name of its record, which none has, and with its record's price, may
  -- be kept where there is room.
  pub kept_more : (name : List ℕ) (h : HeldRecord)
      → name ≡ name_of naming (record_of h)
      → under_name name entries ≡ None
      → price_in rulings (record_of h) ≡ Some h.priced
      → total + h.priced.amount ≤ most_cost
      → length entries < most_held
      → AreBooked naming rulings (insert_entry by_bytes entries name h) (total + h.priced.amount)
  kept_more name h is missing price small room =
      let name_in : Entry → List ℕ = λ entry. name_of naming (bytes_of entry) in
      let prices : List ℕ → Option Priced = price_in rulings in
      let price_of : Entry → Option Priced = λ entry. prices (bytes_of entry) in
      let IsNamed : Entry → Type 0 = λ entry. entry.0 ≡ name_in entry in
      let IsPriced : Entry → Type 0 = λ entry. price_of entry ≡ Some entry.1.priced in
      let after : List Entry = insert_entry by_bytes entries name h in
      let named = All-insert_entry by_bytes name h IsNamed entries missing each_named is in
      let priced = All-insert_entry by_bytes name h IsPriced entries missing each_priced price in
      let more = insert_entry-alike by_bytes name h entries missing in
      let count = length-alike more in
      let sum = more.sums (λ entry. entry.1.priced.amount) in
      let sum_more = sum_by-cons (λ (entry : Entry). entry.1.priced.amount) (name, h) entries in
      let sum_before = kept.summed in
      record {
        named =
            map-agree (λ entry. entry.0) name_in after named
            ∙ sym (map-map (name_of naming) bytes_of after);
        priced =
            sym (map-agree price_of (λ entry. Some entry.1.priced) after priced)
            ∙ sym (map-map prices bytes_of after);
        summed = omega arith;
        small = small;
        few = omega arith;
        in_order = kept.in_order;
      }

  -- a record of a name is held where the name is among those of the entries
  pub named-held : (name : List ℕ)
      → list_any (λ other. same_bytes (name_of naming other) name) (members (held_in entries))
      ≡ is_some (under_name name entries)
  named-held name =
      let has_it : List ℕ → Bool = λ other. same_bytes (name_of naming other) name in
      any-members nat_list_cmp_total exact_bytes has_it (entry_records entries)
      ∙ sym (list_any-map (λ n. same_bytes n name) (name_of naming) (entry_records entries))
      ∙ ap (list_any (λ n. same_bytes n name)) (sym kept.named)
      ∙ (λ i. list_any (λ n. nat_list_eq_equiv.symm n name i) (keys_of entries))
      ∙ (λ i. list_any (λ n. texts_ties name n i) (keys_of entries))
      ∙ sym (is_some-lookup (is_at (by_bytes name)) entries)

  -- so it is with the name of a record
  clashes-held : (bytes name : List ℕ) → name ≡ name_of naming bytes
      → clashes naming (held_in entries) bytes ≡ is_some (under_name name entries)
  clashes-held bytes name is =
      ap (λ own. list_any (λ other. same_bytes (name_of naming other) own)
      (members (held_in entries))) (sym is)
      ∙ named-held name

  -- where a record's name is found, a record of its name is held
  pub clashes-found : (bytes name : List ℕ) (h : HeldRecord)
      → name ≡ name_of naming bytes
      → under_name name entries ≡ Some h
      → clashes naming (held_in entries) bytes ≡ true
  clashes-found bytes name h is found = clashes-held bytes name is ∙ ap is_some found

  -- where it is missing, none is
  pub clashes-missing : (bytes name : List ℕ)
      → name ≡ name_of naming bytes
      → under_name name entries ≡ None
      → clashes naming (held_in entries) bytes ≡ false
  clashes-missing bytes name is missing = clashes-held bytes name is ∙ ap is_some missing

  module _ (rising : IsStrictlySortedBy by_bytes (keys_of entries)) where
    -- a record is held where the one under its name is that record
    has-held : (bytes name : List ℕ) → name ≡ name_of naming bytes
        → has (held_in entries) bytes
        ≡ option_map_or (λ h. same_bytes (record_of h) bytes) (under_name name entries) false
    has-held bytes name is =
        let at_name : List ℕ → Bool = eq_by_cmp by_bytes name in
        let same : HeldRecord → Bool = λ h. same_bytes (record_of h) bytes in
        let laws = eq_by_cmp_equiv nat_list_cmp_total in
        let apart = IsDistinct-from_sorted by_bytes (keys_of entries) rising in
        let each = All-weaker _ _ (same_record naming bytes name is) entries each_named in
        has-texts (entry_records entries) bytes
        ∙ list_any-map (same_bytes bytes) bytes_of entries
        ∙ list_any-agree _ (λ entry. at_name entry.0 && same entry.1) entries each
        ∙ list_any-at_key laws name same entries apart

    -- the same, where a record has its name
    pub has-found : (bytes name : List ℕ) (h : HeldRecord)
        → name ≡ name_of naming bytes
        → under_name name entries ≡ Some h
        → has (held_in entries) bytes ≡ same_bytes (record_of h) bytes
    has-found bytes name h is found =
        has-held bytes name is
        ∙ ap (λ v. option_map_or (λ h. same_bytes (record_of h) bytes) v false) found

    -- and where none does
    pub has-missing : (bytes name : List ℕ)
        → name ≡ name_of naming bytes
        → under_name name entries ≡ None
        → has (held_in entries) bytes ≡ false
    has-missing bytes name is missing =
        has-held bytes name is
        ∙ ap (λ v. option_map_or (λ h. same_bytes (record_of h) bytes) v false) missing

    -- the records strictly rise by name
    pub records_rise : IsStrictlySortedBy (by_name naming) (entry_records entries)
    records_rise =
        let names_rise = subst (IsStrictlySortedBy by_bytes) kept.named rising in
        rises_then (name_of naming) by_bytes by_bytes (entry_records entries) names_rise

    -- no two of them are one
    pub records_differ : IsDistinct (eq_by_cmp by_bytes) (entry_records entries)
    records_differ =
        let total_by_name = by_name_total naming in
        let exact_by_name = by_name_exact naming in
        let ties = same_ties total_by_name exact_by_name nat_list_cmp_total exact_bytes in
        let apart = IsDistinct-from_sorted (by_name naming) (entry_records entries) records_rise in
        subst (λ same. IsDistinct same (entry_records entries)) (λ i a b. ties a b i) apart

    -- the set that is held has the records of the entries, each once
    pub held-alike : SumsAlike (members (held_in entries)) (entry_records entries)
    held-alike = members-alike nat_list_cmp_total (entry_records entries) records_differ

    -- as many records are held as there are entries
    pub length-held : length (members (held_in entries)) ≡ length entries
    length-held = length-alike held-alike ∙ length-map entries bytes_of

    -- together they cost the total
    pub total_of-held : total_of rulings (held_in entries) ≡ total
    total_of-held =
        let price : List ℕ → Option Priced = price_in rulings in
        let priced : Entry → Priced = λ entry. entry.1.priced in
        let amount : Priced → ℕ = λ priced. priced.amount in
        let prices = filter_map-alike price held-alike in
        let own : Entry → Option Priced = λ entry. price (bytes_of entry) in
        prices.sums amount
        ∙ ap (sum_by amount) (filter_map-map price bytes_of entries)
        ∙ ap (sum_by amount) (filter_map-defined own priced entries each_priced)
        ∙ fold-map (λ n priced. n + amount priced) priced 0 entries
        ∙ sym kept.summed
