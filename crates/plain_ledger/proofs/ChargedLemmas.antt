-- Which entries of a plain ledger have no rival: those that are alone in their identity.
use Rattle.std.proofs.Common.{◌≡◌, ℕ, ◌+◌, List, sym, ap, ◌∙◌, subst, true, Bool, cond, not, arith}
use Rattle.std.proofs.Common.{get_or, count_by, All, nat_eq, nat_lt}
use Rattle.std.specs.Map.{keys_of}
use Rattle.book_model.proofs.Std.{bytes_decides, list_any, IsDistinct, IsStrictlySortedBy}
use Rattle.book_model.proofs.Std.{nat_tests, nat_list_eq_equiv, fold-map, list_any_at}
use Rattle.book_model.specs.Words.{identity_by, share_identity, conflict, is_unrivalled, Naming}
use Rattle.book_model.specs.Words.{by_bytes, same_bytes, Rulings}
use Rattle.plain_ledger.specs.Plain.{Entry, entry_identity, entry_records, entry_has_identity}
use Rattle.plain_ledger.specs.Plain.{held_in, AreBooked, is_alone}
use Rattle.plain_ledger.proofs.HeldLemmas.{bytes_of, records_differ, held-alike}
use Rattle.book_model.proofs.Lemmas.{list_any-map, count_by-distinct, same_bytes-by_cmp}
use Rattle.book_model.proofs.Lemmas.{list_any-count_by}
use Rattle.book_model.proofs.ListLemmas.{count_by-narrower}
use Rattle.book_model.proofs.SumsAlike.{list_any-alike}

-- as many records share an entry's identity as entries have it
count_by-treatment : (rulings : Rulings) (entries : List Entry) (entry : Entry)
    → count_by (share_identity rulings (bytes_of entry)) (entry_records entries)
    ≡ count_by (entry_has_identity rulings (entry_identity rulings entry)) entries
count_by-treatment rulings entries entry =
    let treatment : List ℕ → Bool = share_identity rulings (bytes_of entry) in
    let own = entry_identity rulings entry in
    fold-map (λ n bytes. n + cond (treatment bytes) 1 0) bytes_of 0 entries
    ∙ (λ i. count_by (λ other.
    nat_list_eq_equiv.symm own (entry_identity rulings other) i) entries)

-- none are left where there is one in all
none_left : (n : ℕ) → not (nat_lt 0 n) ≡ nat_eq (1 + n) 1
none_left n = grind (arith, nat_tests)

module _ {naming : Naming} {rulings : Rulings} {entries : List Entry} {total : ℕ}
    (kept : AreBooked naming rulings entries total)
    (rising : IsStrictlySortedBy by_bytes (keys_of entries)) where
  -- a record among those of the entries is there once
  count_by-same : (bytes : List ℕ)
      → list_any (same_bytes bytes) (entry_records entries) ≡ true
      → count_by (same_bytes bytes) (entry_records entries) ≡ 1
  count_by-same bytes among =
      let all = entry_records entries in
      let differ = records_differ kept rising in
      let apart = subst (λ same. IsDistinct same all) (sym same_bytes-by_cmp) differ in
      count_by-distinct nat_list_eq_equiv bytes all apart
      ∙ ap (λ b. cond b 1 0) among

  -- an entry's record has no rival where no other entry has its identity
  is_unrivalled-held : (entry : Entry)
      → list_any (same_bytes (bytes_of entry)) (entry_records entries) ≡ true
      → is_unrivalled rulings (held_in entries) (bytes_of entry)
      ≡ is_alone rulings entries entry
  is_unrivalled-held entry among =
      let own = bytes_of entry in
      let all = entry_records entries in
      let same : List ℕ → Bool = same_bytes own in
      let treatment : List ℕ → Bool = share_identity rulings own in
      let others : List ℕ → Bool = conflict rulings own in
      let itself = nat_list_eq_equiv.refl (identity_by rulings own) in
      let narrower = λ (bytes : List ℕ) (is : same bytes ≡ true).
      ap treatment (sym ((bytes_decides own bytes).0 is)) ∙ itself in
      ap not (list_any-alike others (held-alike kept rising))
      ∙ ap not (list_any-count_by others all)
      ∙ none_left (count_by others all)
      ∙ ap (λ n. nat_eq (n + count_by others all) 1) (sym (count_by-same own among))
      ∙ ap (λ n. nat_eq n 1) (sym (count_by-narrower same treatment narrower all))
      ∙ ap (λ n. nat_eq n 1) (count_by-treatment rulings entries entry)

  -- so it is with each entry
  pub each_unrivalled :
      All (λ (entry : Entry).
      is_unrivalled rulings (held_in entries) (bytes_of entry)
      ≡ is_alone rulings entries entry) entries
  each_unrivalled k d within =
      let entry = get_or entries k d in
      let same : List ℕ → Bool = same_bytes (bytes_of entry) in
      let itself = nat_list_eq_equiv.refl (bytes_of entry) in
      let among = list_any_at (λ other. same (bytes_of other)) entries k d within itself in
      is_unrivalled-held entry (list_any-map same bytes_of entries ∙ among)
