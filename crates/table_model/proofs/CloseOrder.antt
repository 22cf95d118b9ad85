-- Days that rise, with a later one after them.
use Rattle.std.proofs.Common.{◌≡◌, List, [], ◌∷◌, ◌++◌, sym, Some, None, arith}
use Rattle.std.proofs.Common.{ℤ, ◌<ℤ◌, MatchOption, int_cmp, Less}
use Rattle.std.specs.Cmp.{int_cmp_is, int_ranked}
use Rattle.std.specs.List.Sorted.{IsStrictlySortedBy}
use Rattle.book_model.proofs.Std.{AllByRecursion, last_or, ints}

-- a day is later than another if it compares so
pub earlier : (one other : ℤ) → int_cmp one other ≡ Less → one <ℤ other
earlier one other less = int_ranked one other Less (sym less)

-- a day that is later than the last of rising days is later than the first
pub first_earlier : (first : ℤ) (days : List ℤ) (day : ℤ) → IsStrictlySortedBy int_cmp (first ∷ days)
    → MatchOption (last_or (Some first) days) (Unit {0}) (λ last. last <ℤ day) → first <ℤ day
unfolding IsStrictlySortedBy
first_earlier first [] day rising later = later
first_earlier first (next ∷ days) day rising later =
    let behind = first_earlier next days day rising.1 later in
    let own = earlier first next rising.0.0 in
    grind (arith, ints)

-- and then it may come after them
pub rise_behind : (days : List ℤ) (day : ℤ) → IsStrictlySortedBy int_cmp days
    → MatchOption (last_or None days) (Unit {0}) (λ last. last <ℤ day)
    → IsStrictlySortedBy int_cmp (days ++ day ∷ [])
unfolding IsStrictlySortedBy
rise_behind [] day rising later = (tt, tt)
rise_behind (first ∷ []) day rising later =
    ((sym (int_cmp_is first day Less later), tt), (tt, tt))
rise_behind (first ∷ next ∷ days) day rising later =
    let last_behind = first_earlier first (next ∷ days) day rising later in (
      all_less (next ∷ days) rising.0 (sym (int_cmp_is first day Less last_behind)),
      rise_behind (next ∷ days) day rising.1 later,
    )
  where
    all_less : (others : List ℤ) → AllByRecursion (λ other. int_cmp first other ≡ Less) others
        → int_cmp first day ≡ Less
        → AllByRecursion (λ other. int_cmp first other ≡ Less) (others ++ day ∷ [])
    all_less [] less last = (last, tt)
    all_less (other ∷ others) less last = (less.0, all_less others less.1 last)
