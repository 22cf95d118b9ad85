-- A loop up to the first element that passes a test, or fails it.
use Rattle.std.proofs.Common.{◌≡◌, ℕ, zero, suc, ◌+◌, ◌<◌, ◌≤◌, Bool, true, false, cond, not, ◌||◌}
use Rattle.std.proofs.Common.{nat_lt, List, [], ◌∷◌, length, take, take_all, get_or, Option, Some, None}
use Rattle.std.proofs.Common.{refl, sym, ap, ◌∙◌, arith}
use Rattle.std.proofs.lemmas.Bool.Decides.{nat_tests}
use Rattle.std.proofs.lemmas.List.Folds.{list_all_at, list_all_more, list_any_at, list_any_more}
use Rattle.std.specs.List.{find, list_all, list_any, position_or_len}
use Rattle.tariff_rules.specs.Reckoning.{rule_number}

module _ {A : Type 0} (test : A → Bool) where
  -- none of the first i elements passes
  abbrev pub AreFailed : List A → ℕ → Type 0
  AreFailed xs i = list_any test (take i xs) ≡ false

  -- one more element that fails
  pub fails_more : (xs : List A) (i : ℕ) (d : A) → i < length xs → AreFailed xs i
      → test (get_or xs i d) ≡ false → AreFailed xs (i + 1)
  fails_more xs i d within before here =
      list_any_more test xs i d within ∙ rw (before, here) refl

  all_failed : (xs : List A) (i : ℕ) → length xs ≤ i → AreFailed xs i → list_any test xs ≡ false
  all_failed xs i all before = sym (ap (list_any test) (take_all i xs all)) ∙ before

  -- all of the first i elements pass
  abbrev pub ArePassed : List A → ℕ → Type 0
  ArePassed xs i = list_all test (take i xs) ≡ true

  -- one more element that passes
  pub passes_more : (xs : List A) (i : ℕ) (d : A) → i < length xs → ArePassed xs i
      → test (get_or xs i d) ≡ true → ArePassed xs (i + 1)
  passes_more xs i d within before here =
      list_all_more test xs i d within ∙ rw (before, here) refl

  -- whether all pass
  pub one_fails : (xs : List A) (i : ℕ) (d : A) → i < length xs → test (get_or xs i d) ≡ false
      → false ≡ list_all test xs
  one_fails xs i d within here = sym (list_all_at test xs i d within here)

  pub all_pass : (xs : List A) (i : ℕ) → length xs ≤ i → ArePassed xs i → true ≡ list_all test xs
  all_pass xs i all before = sym before ∙ ap (list_all test) (take_all i xs all)

  -- whether any passes
  pub any_passes : (xs : List A) (i : ℕ) (d : A) → i < length xs → test (get_or xs i d) ≡ true
      → true ≡ list_any test xs
  any_passes xs i d within here = sym (list_any_at test xs i d within here)

  pub none_passes : (xs : List A) (i : ℕ) → length xs ≤ i → AreFailed xs i
      → false ≡ list_any test xs
  none_passes xs i all before = sym (all_failed xs i all before)

  -- the first that passes
  first_at : (xs : List A) (i : ℕ) (d : A) → i < length xs → AreFailed xs i
      → test (get_or xs i d) ≡ true → find test xs ≡ Some (get_or xs i d)
  first_at [] i d within before here = absurd (omega arith)
  first_at (x ∷ xs) zero d within before here = ap (λ b. cond b (Some x) (find test xs)) here
  first_at (x ∷ xs) (suc i) d within before here =
      by (test x) before (λ others. first_at xs i d (omega arith) others here)
    where
      by : (b : Bool) → (b || list_any test (take i xs)) ≡ false
          → (AreFailed xs i → find test xs ≡ Some (get_or xs i d))
          → cond b (Some x) (find test xs) ≡ Some (get_or xs i d)
      by true before later = absurd (cc)
      by false before later = later before

  no_first : (xs : List A) → list_any test xs ≡ false → find test xs ≡ None
  no_first [] none = refl
  no_first (x ∷ xs) none = by (test x) none (no_first xs)
    where
      by : (b : Bool) → (b || list_any test xs) ≡ false
          → (list_any test xs ≡ false → find test xs ≡ None)
          → cond b (Some x) (find test xs) ≡ None
      by true none later = absurd (cc)
      by false none later = later none

  pub is_first : (xs : List A) (i : ℕ) (d : A) → i < length xs → AreFailed xs i
      → test (get_or xs i d) ≡ true → Some (get_or xs i d) ≡ find test xs
  is_first xs i d within before here = sym (first_at xs i d within before here)

  pub has_no_first : (xs : List A) (i : ℕ) → length xs ≤ i → AreFailed xs i
      → None ≡ find test xs
  has_no_first xs i all before = sym (no_first xs (all_failed xs i all before))

  -- its place
  pub place_at : (xs : List A) (i : ℕ) (d : A) → i < length xs → AreFailed xs i
      → test (get_or xs i d) ≡ true → position_or_len test xs ≡ i
  place_at [] i d within before here = absurd (omega arith)
  place_at (x ∷ xs) zero d within before here =
      ap (λ b. cond (not b) (1 + position_or_len test xs) 0) here
  place_at (x ∷ xs) (suc i) d within before here =
      by (test x) before (λ others. place_at xs i d (omega arith) others here)
    where
      by : (b : Bool) → (b || list_any test (take i xs)) ≡ false
          → (AreFailed xs i → position_or_len test xs ≡ i)
          → cond (not b) (1 + position_or_len test xs) 0 ≡ suc i
      by true before later = absurd (cc)
      by false before later = let at = later before in omega arith

  pub no_place : (xs : List A) → list_any test xs ≡ false → position_or_len test xs ≡ length xs
  no_place [] none = refl
  no_place (x ∷ xs) none = by (test x) none (no_place xs)
    where
      by : (b : Bool) → (b || list_any test xs) ≡ false
          → (list_any test xs ≡ false → position_or_len test xs ≡ length xs)
          → cond (not b) (1 + position_or_len test xs) 0 ≡ length (x ∷ xs)
      by true none later = absurd (cc)
      by false none later = let at = later none in omega arith

  -- its number, from 1
  pub is_number : (xs : List A) (i : ℕ) (d : A) → i < length xs → AreFailed xs i
      → test (get_or xs i d) ≡ true → Some (i + 1) ≡ rule_number test xs
  is_number xs i d within before here =
      let at : position_or_len test xs ≡ i = place_at xs i d within before here in
      let there : nat_lt i (length xs) ≡ true = grind (arith, nat_tests) in
      let next : i + 1 ≡ suc i = omega arith in
      rw (at, there, next) refl

  pub has_no_number : (xs : List A) (i : ℕ) → length xs ≤ i → AreFailed xs i
      → None ≡ rule_number test xs
  has_no_number xs i all before =
      let at : position_or_len test xs ≡ length xs = no_place xs (all_failed xs i all before) in
      let none : nat_lt (length xs) (length xs) ≡ false = grind (arith, nat_tests) in
      rw (at, none) refl
