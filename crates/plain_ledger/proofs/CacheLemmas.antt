-- What is put into a map for a key, and that the records which a plain ledger recalls stay held.
use Rattle.std.proofs.Common.{◌≡◌, ◌∙◌, ◌||◌, ap, Bool, true, ℕ, List, ◌∷◌, Option, Some, None}
use Rattle.std.proofs.Common.{Result, Ok, Err, subst, sym, All, IfOk, OnErr, Global, IsPermutation}
use Rattle.std.proofs.Common.{MatchOption}
use Rattle.std.specs.BTreeMap.{insert_entry}
use Rattle.std.specs.HashMap.{values}
use Rattle.std.specs.Map.{set_value, values_of}
use Rattle.std.specs.Rc.{rc_slice_items}
use Rattle.std.specs.declared.rc.RcSlice.{RcSlice}
use Rattle.std.proofs.lemmas.Bool.{or_right}
use Rattle.std.proofs.lemmas.List.Elements.{All-cons, All-weaker}
use Rattle.std.proofs.lemmas.Map.Views.{All-map-IsPermutation, All-values-set_value}
use Rattle.book_model.specs.Words.{by_bytes, has}
use Rattle.book_model.proofs.RecordSets.{has_with, is_itself}
use Rattle.plain_ledger.specs.declared.held.HeldRecord.{HeldRecord}
use Rattle.plain_ledger.specs.declared.record_cache.RecordCache.{RecordCache}
use Rattle.plain_ledger.specs.Plain.{Entry, CacheIsHeld, held_in, record_of}
use Rattle.plain_ledger.specs.Treatments.{under_name}
use Rattle.plain_ledger.proofs.HeldLemmas.{held_in-more}

module _ {K X E : Type 0} (Holds : X → Type 0) (is_key : K → Bool) (key : K) (value : X)
    (before after : List (K × X)) where
  -- What holds of each value still holds of each one after another was put in that it holds of, or
  -- after that was refused.
  pub put_in : (result : Result (Option X) E)
      → IfOk result (λ old. MatchOption old (IsPermutation ((key, value) ∷ before) after)
      (λ _. after ≡ set_value is_key before value))
      → OnErr result (after ≡ before)
      → All Holds (values_of before) → Holds value → All Holds (values_of after)
  put_in (Ok None) puts refused all one =
      All-map-IsPermutation (λ entry. entry.1) Holds ((key, value) ∷ before) after puts
      (All-cons Holds value (values_of before) one all)
  put_in (Ok (Some old)) puts refused all one =
      subst (λ entries. All Holds (values_of entries)) (sym puts)
      (All-values-set_value is_key Holds before value all one)
  put_in (Err fault) puts refused all one =
      subst (λ entries. All Holds (values_of entries)) (sym refused) all

module _ (entries : List Entry) (name : List ℕ) (h : HeldRecord)
    (missing : under_name name entries ≡ None) where
  -- with an entry more, under a name that none has, its record is held
  pub one_held : (bytes : List ℕ) → bytes ≡ record_of h
      → has (held_in (insert_entry by_bytes entries name h)) bytes ≡ true
  one_held bytes is =
      ap (has (held_in (insert_entry by_bytes entries name h))) is
      ∙ ap (λ set. has set (record_of h)) (held_in-more entries name h missing)
      ∙ has_with (held_in entries) (record_of h) (record_of h)
      ∙ ap (λ b. b || has (held_in entries) (record_of h)) (is_itself (record_of h))

  -- and what is recalled is held as before
  pub still_held : (cache : RecordCache) → CacheIsHeld entries cache
      → CacheIsHeld (insert_entry by_bytes entries name h) cache
  still_held cache held =
      let more = held_in-more entries name h missing in
      let after = held_in (insert_entry by_bytes entries name h) in
      let still : (bytes : RcSlice ℕ Global) → has (held_in entries) (rc_slice_items bytes) ≡ true
      → has after (rc_slice_items bytes) ≡ true =
      λ bytes is. ap (λ set. has set (rc_slice_items bytes)) more
      ∙ has_with (held_in entries) (record_of h) (rc_slice_items bytes)
      ∙ or_right _ _ is in
      All-weaker _ _ still (values cache.by_identity) held
