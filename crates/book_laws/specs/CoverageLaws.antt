-- The laws of coverage: the systems of what is counted are found in the books, no day of a period
-- is left out, and the counts add up to those of the statement.
use Rattle.std.specs.Prelude.{◌≡◌, ◌≤ℤ◌, ◌-◌, ℕ, ℤ, All, IsOk, List, Option, Some, map, sum_by}
use Rattle.std.specs.List.{Contains}
use Rattle.book_model.specs.declared.detail.Detail.{Detail}
use Rattle.book_model.specs.Words.{Book, Event, IsMadeByCalls, IsSound, Naming, Period, all_periods}
use Rattle.book_model.specs.Words.{book_after, detail_of, details_of, period_of, record_named}
use Rattle.book_model.specs.Words.{rows_for, through_of, trail_outcome}
use Rattle.coverage_texts.specs.Coverage.{begins_on, coverage_rows, day_of_first, day_of_last}
use Rattle.coverage_texts.specs.Coverage.{ends_on, row_at, systems_of}
use Rattle.coverage_texts.specs.declared.coverage_rows.CoverageRow.{CoverageRow}
use Rattle.coverage_texts.specs.declared.coverage_rows.SystemDetail.{SystemDetail}
use Rattle.book_reports.specs.SystemDetails.{on_system}

-- The record of a detail is held under the name that the detail has, and so its trail is answered.
pub record IsHeldDetail (naming : Naming) (book : Book) (detail : Detail) : Type 0 where
  pub bytes : List ℕ
  pub found : record_named naming book.held detail.name ≡ Some bytes
  pub its_own : detail_of naming book.rulings bytes ≡ Some detail
  pub trail : IsOk (trail_outcome naming detail.name book).answer

-- So it is of each detail of sound books: each record that a period counts has a system.
abbrev pub CountedAreHeld : Type 0
CountedAreHeld =
    (naming : Naming) (book : Book) → IsSound naming book
    → All (λ period. All (IsHeldDetail naming book) (details_of naming book.rulings period))
    (all_periods book)

-- Each day from the first of a period to its last stands in its coverage for each system, with the
-- row of the records there, be there any or none.
abbrev pub EachDayStands : Type 0
EachDayStands =
    (before through : Option ℤ) (details : List SystemDetail) (first last day : ℤ)
    (system : List ℕ)
    → begins_on before (day_of_first details) ≡ Some first
    → ends_on through (day_of_last details) ≡ Some last
    → first ≤ℤ day → day ≤ℤ last → Contains (systems_of details) system
    → Contains (coverage_rows before through details)
    (row_at details (record { day = day; system = system }))

-- the rows of the coverage of a period, by its number
abbrev pub coverage_in : Naming → Book → ℕ → Period → List CoverageRow
coverage_in naming book number period =
    coverage_rows (through_of (number - 1) book.rulings) (through_of number book.rulings)
    (map (on_system naming book) (details_of naming book.rulings period))

-- Each record of a period stands in one row of its coverage: so its counts add up to the count of
-- the statement.
abbrev pub CoverageAddsUp : Type 0
CoverageAddsUp =
    (naming : Naming) (history : List Event) (number : ℕ) (period : Period)
    → IsMadeByCalls naming history
    → period_of (book_after history) number ≡ Some period
    → sum_by (λ row. row.count) (coverage_in naming (book_after history) number period)
    ≡ sum_by (λ row. row.count) (rows_for (book_after history).rulings period.counted)
