-- The period that a day belongs to, among closes in order: those before it come before the day, and
-- its own close, if there is one, does not.
use Rattle.std.proofs.Common.{◌≡◌, ◌∙◌, ℕ, zero, suc, ◌<◌, ◌≤◌, List, [], ◌∷◌, length, refl, sym}
use Rattle.std.proofs.Common.{ap, true, false, Bool, cond, Some, arith, ℤ, filter, int_lt}
use Rattle.std.proofs.Common.{slice_get, int_cmp}
use Rattle.std.specs.List.Sorted.{IsStrictlySortedBy}
use Rattle.book_model.proofs.Std.{ints, count_by-le-length, length-filter}
use Rattle.table_model.proofs.CloseOrder.{earlier}

module _ (day : ℤ) where
  -- a close comes before the day
  abbrev pub is_before : ℤ → Bool
  is_before close = int_lt close day

  -- how many closes do
  abbrev pub closes_before : List ℤ → ℕ
  closes_before closes = length (filter is_before closes)

  -- no more than there are
  pub few_before : (closes : List ℤ) → closes_before closes ≤ length closes
  few_before closes =
      let counted = length-filter is_before closes in
      let few = count_by-le-length is_before closes in
      omega (arith, counted, few)

  -- one more that does, and one that does not
  one_before : (close : ℤ) (closes : List ℤ) → is_before close ≡ true
      → closes_before (close ∷ closes) ≡ suc (closes_before closes)
  one_before close closes before =
      ap (λ b. length (cond b (close ∷ filter is_before closes) (filter is_before closes))) before

  one_later : (close : ℤ) (closes : List ℤ) → is_before close ≡ false
      → closes_before (close ∷ closes) ≡ closes_before closes
  one_later close closes late =
      ap (λ b. length (cond b (close ∷ filter is_before closes) (filter is_before closes))) late

  -- where the first does not come before the day, none does
  none_before : (close : ℤ) (closes : List ℤ) → IsStrictlySortedBy int_cmp (close ∷ closes)
      → is_before close ≡ false → closes_before (close ∷ closes) ≡ 0
  unfolding IsStrictlySortedBy
  none_before close [] rising late = one_later close [] late
  none_before close (next ∷ closes) rising late =
      let less = earlier close next rising.0.0 in
      let next_late : is_before next ≡ false = grind (arith, ints) in
      one_later close (next ∷ closes) late ∙ none_before next closes rising.1 next_late

  -- as many closes as come before the day are the first ones,
  pub came_before : (closes : List ℤ) (k : ℕ) (close : ℤ) → IsStrictlySortedBy int_cmp closes
      → k < closes_before closes → slice_get closes k ≡ Some close → is_before close ≡ true
  unfolding IsStrictlySortedBy
  came_before [] k close rising within there = cc
  came_before (first ∷ closes) zero close rising within there =
      let same : first ≡ close = cc in
      elim (is_before first) as (λ b. is_before first ≡ b → is_before close ≡ true) [
        | true ↦ λ before. ap is_before (sym same) ∙ before
        | false ↦ λ late.
            let none = none_before first closes rising late in
            absurd (omega (arith, within, none))
      ] refl
  came_before (first ∷ closes) (suc k) close rising within there =
      elim (is_before first) as (λ b. is_before first ≡ b → is_before close ≡ true) [
        | true ↦ λ before.
            let more = one_before first closes before in
            came_before closes k close rising.1 (omega (arith, within, more)) there
        | false ↦ λ late.
            let none = none_before first closes rising late in
            absurd (omega (arith, within, none))
      ] refl

  -- and the next one does not
  pub comes_later : (closes : List ℤ) (close : ℤ) → IsStrictlySortedBy int_cmp closes
      → slice_get closes (closes_before closes) ≡ Some close → is_before close ≡ false
  unfolding IsStrictlySortedBy
  comes_later [] close rising there = cc
  comes_later (first ∷ closes) close rising there =
      elim (is_before first) as (λ b. is_before first ≡ b → is_before close ≡ false) [
        | true ↦ λ before.
            comes_later closes close rising.1
            (ap (slice_get (first ∷ closes)) (sym (one_before first closes before)) ∙ there)
        | false ↦ λ late.
            let is_first : Some first ≡ Some close =
            ap (slice_get (first ∷ closes)) (sym (none_before first closes rising late)) ∙ there in
            let same : first ≡ close = cc in
            ap is_before (sym same) ∙ late
      ] refl
