-- The days of a period's coverage, one after another, and the rows of each.
use Rattle.std.proofs.Common.{◌≡◌, ◌∙◌, ℕ, zero, suc, ◌+◌, ◌<◌, ◌≤◌, ℤ, pos, negsuc, ◌+ℤ◌, ◌<ℤ◌}
use Rattle.std.proofs.Common.{List, [], ◌∷◌, ◌++◌, map, refl, sym, ap, subst, arith, append-nil}
use Rattle.std.proofs.Common.{append_assoc, get_or, length, Option, Some, None, ◌≤ℤ◌, All, IfSome}
use Rattle.std.proofs.Common.{flat_map}
use Rattle.std.specs.Int.{int_gap}
use Rattle.std.specs.Option.{ForSome}
use Rattle.book_model.proofs.Std.{ints, All-append, All-cons, All-head, All-nil, All-tail}
use Rattle.smf_text.specs.Day.{first_day, last_day}
use Rattle.book_model.specs.Words.{IsDay}
use Rattle.coverage_texts.specs.Coverage.{begins_on, day_of_first, day_of_last, days_between}
use Rattle.coverage_texts.specs.Coverage.{days_from, ends_on}
use Rattle.coverage_texts.specs.declared.coverage_rows.CoverageRow.{CoverageRow}
use Rattle.coverage_texts.specs.declared.coverage_rows.SystemDetail.{SystemDetail}

-- ---- how many days there are

-- the days from one day to a later one
pub gap_is : (early late : ℤ) → early ≤ℤ late → late ≡ early +ℤ pos (int_gap early late)
gap_is (pos a) (pos b) h = omega (arith, ints)
gap_is (pos a) (negsuc b) h = absurd (omega (arith, ints))
gap_is (negsuc a) (pos b) h = omega (arith, ints)
gap_is (negsuc a) (negsuc b) h = omega (arith, ints)

-- there are none to an earlier one
pub gap_over : (early late : ℤ) → late ≤ℤ early → int_gap early late ≡ 0
gap_over (pos a) (pos b) h = omega (arith, ints)
gap_over (pos a) (negsuc b) h = refl
gap_over (negsuc a) (pos b) h = absurd (omega (arith, ints))
gap_over (negsuc a) (negsuc b) h = omega (arith, ints)

-- so there is a day only to a later one
pub some_left : (early late : ℤ) (more : ℕ) → int_gap early late ≡ suc more → early ≤ℤ late
some_left (pos a) (pos b) more is = omega (arith, ints, is)
some_left (pos a) (negsuc b) more is = absurd (omega (arith, is))
some_left (negsuc a) (pos b) more is = omega (arith, ints)
some_left (negsuc a) (negsuc b) more is = omega (arith, ints, is)

-- from a day through a last one there is one more than from the next day on
pub next_gap : (day last : ℤ) → day ≤ℤ last
    → int_gap day (last +ℤ pos 1) ≡ suc (int_gap (day +ℤ pos 1) (last +ℤ pos 1))
next_gap day last within =
    let whole = gap_is day (last +ℤ pos 1) (omega (arith, ints, within)) in
    let rest = gap_is (day +ℤ pos 1) (last +ℤ pos 1) (omega (arith, ints, within)) in
    omega (arith, ints, whole, rest)

-- so there are fewer
pub gap_smaller : (day after last : ℤ) → day ≤ℤ last → after ≡ day +ℤ pos 1
    → int_gap after (last +ℤ pos 1) < int_gap day (last +ℤ pos 1)
gap_smaller day after last within is =
    let next = next_gap day last within in
    let same = ap (λ day. int_gap day (last +ℤ pos 1)) is in
    omega (arith, next, same)

-- the days from a day through a last one
abbrev pub days_through : ℤ → ℤ → List ℤ
days_through day last = days_from day (int_gap day (last +ℤ pos 1))

-- a day and those after it
pub next_day : (day last : ℤ) → day ≤ℤ last
    → days_through day last ≡ day ∷ days_through (day +ℤ pos 1) last
next_day day last within = ap (days_from day) (next_gap day last within)

-- or none are left
pub no_day : (day last : ℤ) → last <ℤ day → days_through day last ≡ []
no_day day last over =
    ap (days_from day) (gap_over day (last +ℤ pos 1) (omega (arith, ints, over)))

-- ---- what is made of each of them

module _ {X : Type 0} (f : ℤ → List X) where
  -- one more day is made
  pub day_made : (made more all : List X) (day after last : ℤ) → day ≤ℤ last
      → after ≡ day +ℤ pos 1 → more ≡ made ++ f day
      → made ++ flat_map f (days_through day last) ≡ all
      → more ++ flat_map f (days_through after last) ≡ all
  day_made made more all day after last within is grown kept =
      (λ i. grown i ++ flat_map f (days_through (is i) last))
      ∙ append_assoc made (f day) (flat_map f (days_through (day +ℤ pos 1) last))
      ∙ ap (λ days. made ++ flat_map f days) (sym (next_day day last within))
      ∙ kept

  -- or all are
  pub all_made : (made all : List X) (day last : ℤ) → last <ℤ day
      → made ++ flat_map f (days_through day last) ≡ all → made ≡ all
  all_made made all day last over kept =
      sym (append-nil made)
      ∙ ap (λ days. made ++ flat_map f days) (sym (no_day day last over))
      ∙ kept

-- ---- they are days

-- so many days are days, where the first of them and the last one are
pub days_are : (count : ℕ) (first last : ℤ) → first_day ≤ℤ first → last ≤ℤ last_day
    → (first +ℤ pos count) ≤ℤ (last +ℤ pos 1) → All IsDay (days_from first count)
days_are zero first last early late fits = All-nil IsDay
days_are (suc count) first last early late fits =
    All-cons IsDay first (days_from (first +ℤ pos 1) count)
    (early, omega (arith, ints, early, late, fits))
    (days_are count (first +ℤ pos 1) last (omega (arith, ints, early)) late
    (omega (arith, ints, fits)))

-- those through a last one are
pub through_are : (first last : ℤ) → first_day ≤ℤ first → last ≤ℤ last_day
    → All IsDay (days_through first last)
through_are first last early late =
    by (int_gap first (last +ℤ pos 1)) refl
  where
    by : (count : ℕ) → int_gap first (last +ℤ pos 1) ≡ count → All IsDay (days_from first count)
    by zero is = All-nil IsDay
    by (suc count) is =
        let some : first ≤ℤ (last +ℤ pos 1) = some_left first (last +ℤ pos 1) count is in
        let whole = gap_is first (last +ℤ pos 1) some in
        days_are (suc count) first last early late (omega (arith, ints, whole, is))

-- so are those between two, if there are both
pub days_shown : (first last : Option ℤ) → IfSome first (λ first. first_day ≤ℤ first)
    → IfSome last (λ last. last ≤ℤ last_day) → All IsDay (days_between first last)
days_shown None last early late = All-nil IsDay
days_shown (Some first) None early late = All-nil IsDay
days_shown (Some first) (Some last) early late = through_are first last early late

-- what is made of days is dated on days
pub dated : (f : ℤ → List CoverageRow)
    → ((day : ℤ) → IsDay day → All (λ row. IsDay row.day) (f day)) → (days : List ℤ) → All IsDay days → All (λ row. IsDay row.day) (flat_map f days)
dated f each [] are = All-nil (λ (row : CoverageRow). IsDay row.day)
dated f each (day ∷ days) are =
    All-append (λ (row : CoverageRow). IsDay row.day) (f day) (flat_map f days)
    (each day (All-head IsDay day days are))
    (dated f each days (All-tail IsDay day days are))

-- ---- the first and the last day

-- a period begins on no day before the first
pub begins_late : (before first : Option ℤ) → ForSome before IsDay → ForSome first IsDay
    → IfSome (begins_on before first) (λ first. first_day ≤ℤ first)
begins_late None None before first = tt
begins_late None (Some day) before first = (first day refl).0
begins_late (Some close) first before is =
    let day = before close refl in
    omega (arith, ints, day.0)

-- and ends on none after the last
pub ends_early : (through last : Option ℤ) → ForSome through IsDay → ForSome last IsDay
    → IfSome (ends_on through last) (λ last. last ≤ℤ last_day)
ends_early None None through last = tt
ends_early None (Some day) through last = (last day refl).1
ends_early (Some close) last through is = (through close refl).1

-- the days of the first record and of the last are days
pub first_shown : (details : List SystemDetail)
    → All (λ one. IsDay one.detail.priced.day) details → ForSome (day_of_first details) IsDay
first_shown [] are = λ day is. cc
first_shown (one ∷ more) are = λ day is.
    let same : one.detail.priced.day ≡ day = cc in
    subst IsDay same (All-head (λ (one : SystemDetail). IsDay one.detail.priced.day) one more are)

pub last_shown : (details : List SystemDetail)
    → All (λ one. IsDay one.detail.priced.day) details → ForSome (day_of_last details) IsDay
last_shown [] are = λ day is. cc
last_shown (one ∷ []) are = λ day is.
    let same : one.detail.priced.day ≡ day = cc in
    subst IsDay same (All-head (λ (one : SystemDetail). IsDay one.detail.priced.day) one [] are)
last_shown (one ∷ next ∷ more) are =
    last_shown (next ∷ more)
    (All-tail (λ (one : SystemDetail). IsDay one.detail.priced.day) one (next ∷ more) are)
