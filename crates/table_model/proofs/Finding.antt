-- What is found in a table has the properties that all of its rows have.
use Rattle.std.proofs.Common.{◌≡◌, ℕ, zero, suc, ◌+◌, List, [], ◌∷◌, map, refl, sym, ap, ◌∙◌, subst}
use Rattle.std.proofs.Common.{true, Bool, cond, Option, Some, None, arith, filter, slice_get, All}
use Rattle.std.proofs.Common.{is_eq, nat_cmp, Ordering, Less, Equal, Greater}
use Rattle.std.specs.FinMap.{find}
use Rattle.book_model.proofs.Std.{IsTotalOrder, IsAntisymmetric, from_entries, get}
use Rattle.book_model.proofs.Std.{get-from_entries, nat_cmp-IsAntisymmetric, AllByRecursion}
use Rattle.book_model.proofs.Std.{All-head, filter_passes}
use Rattle.book_model.proofs.Lemmas.{else_find, find-both}
use Rattle.table_model.specs.Words.{by_period, under, numbered}
use Rattle.table_model.proofs.NumberedLemmas.{by_period_total, find-under}

-- a row that is found is one of the list
pub find_one : {K V : Type 0} (R : K → K → Ordering) → IsAntisymmetric R
    → (P : K → V → Type 0) (key : K) (value : V) (rows : List (K × V))
    → AllByRecursion (λ (row : K × V). P row.0 row.1) rows
    → find R key rows ≡ Some value → P key value
find_one R exact P key value [] all found = cc
find_one {K} {V} R exact P key value (row ∷ rows) all found =
    elim (R key row.0) as (λ r. R key row.0 ≡ r
    → cond (is_eq r) (Some row.1) (find R key rows) ≡ Some value → P key value) [
      | Less ↦ λ e there. find_one R exact P key value rows all.1 there
      | Equal ↦ λ tied there.
          let own : row.1 ≡ value = cc in
          let same = exact key row.0 tied in
          subst (P key) own (subst (λ k. P k row.1) (sym same) all.0)
      | Greater ↦ λ e there. find_one R exact P key value rows all.1 there
    ] refl found

-- so is one that a map has which is made of the list
pub get_one : {K V : Type 0} {R : K → K → Ordering} → IsTotalOrder R → IsAntisymmetric R
    → (P : K → V → Type 0) (rows : List (K × V))
    → AllByRecursion (λ (row : K × V). P row.0 row.1) rows
    → (key : K) (value : V) → get (from_entries {R = R} rows) key ≡ Some value → P key value
get_one {R = R} total exact P rows all key value found =
    find_one R exact P key value rows all (sym (get-from_entries total rows key) ∙ found)

-- a row that is found under a number is found in the period of that number
find_numbered : {K V Y : Type 0} (R : K → K → Ordering) (its : Y → List (K × V)) (X : Type 0)
    (place : ℕ × K) (value : V) (n : ℕ) (periods : List Y)
    → ((k : ℕ) (period : Y) → slice_get periods k ≡ Some period → place.0 ≡ n + k
    → find R place.1 (its period) ≡ Some value → X)
    → find (by_period R) place (numbered n (map its periods)) ≡ Some value → X
find_numbered R its X place value n [] use_it found = cc
find_numbered {V = V} R its X place value n (first ∷ periods) use_it found =
    let others = numbered (suc n) (map its periods) in
    let later : find (by_period R) place others ≡ Some value → X =
    find_numbered R its X place value (suc n) periods (λ k period there is own.
    use_it (suc k) period there (omega arith) own) in
    elim (nat_cmp place.0 n) as (λ r. nat_cmp place.0 n ≡ r
    → else_find (cond (is_eq r) (find R place.1 (its first)) None) (find (by_period R) place others)
    ≡ Some value → X) [
      | Less ↦ λ e there. later there
      | Equal ↦ λ tied there.
          let same : place.0 ≡ n = nat_cmp-IsAntisymmetric place.0 n tied in
          either (find R place.1 (its first)) (find (by_period R) place others)
          (λ own. use_it zero first refl (omega arith) own) later there
      | Greater ↦ λ e there. later there
    ] refl
    (ap (λ own. else_find own (find (by_period R) place others))
    (sym (find-under R place n (its first)))
    ∙ sym (find-both (by_period R) place (under n (its first)) others) ∙ found)
  where
    either : (own other : Option V) → (own ≡ Some value → X) → (other ≡ Some value → X)
        → else_find own other ≡ Some value → X
    either None other first second there = second there
    either (Some v) other first second there = first there

-- so is one that the table of all periods has
pub get_numbered : {K V Y : Type 0} {R : K → K → Ordering} → IsTotalOrder R
    → (its : Y → List (K × V)) (X : Type 0) (periods : List Y) (place : ℕ × K) (value : V)
    → ((k : ℕ) (period : Y) → slice_get periods k ≡ Some period → place.0 ≡ 1 + k
    → find R place.1 (its period) ≡ Some value → X)
    → get (from_entries {R = by_period R} (numbered 1 (map its periods))) place ≡ Some value → X
get_numbered {R = R} total its X periods place value use_it found =
    find_numbered R its X place value 1 periods use_it
    (sym (get-from_entries (by_period_total R total) (numbered 1 (map its periods)) place) ∙ found)

-- the first of those that pass a test passes it
pub first_passes : {X : Type 0} (p : X → Bool) (xs : List X) (x : X) (rest : List X)
    → filter p xs ≡ x ∷ rest → p x ≡ true
first_passes p xs x rest is =
    All-head (λ x. p x ≡ true) x rest
    (subst (All (λ x. p x ≡ true)) is (filter_passes p xs))
