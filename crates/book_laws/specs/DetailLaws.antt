-- The laws of details: they add up to charge rows, and each record stands in those of one period.
use Rattle.std.specs.Prelude.{◌≡◌, ℕ, ◌+◌, ◌≤◌, List, All, Some, length, map, sum_by}
use Rattle.book_model.specs.declared.detail.Detail.{Detail}
use Rattle.book_model.specs.declared.row.ChargeRow.{ChargeRow}
use Rattle.book_model.specs.Words.{Book, Event, IsMadeByCalls, IsSound, Naming, Period, all_periods}
use Rattle.book_model.specs.Words.{book_after, charged_of, counted_of, details_at, details_of}
use Rattle.book_model.specs.Words.{details_of_centre, has, is_dated_in, period_of, rows_for}
use Rattle.book_model.specs.Words.{rows_of, those}
use Rattle.report_texts.specs.Centres.{rows_of_centre}
use Rattle.table_model.specs.Words.{IsReadable, row_key}
use Rattle.book_laws.specs.NetCounts.{one_if, times_added, times_counted, times_reversed}

-- A row sums these details: as many as it counts, with its CPU time, its blocks and its amount.
pub record IsSumOf (row : ChargeRow) (details : List Detail) : Type 0 where
  pub count : row.count ≡ length details
  pub cpu : row.cpu ≡ sum_by (λ detail. detail.priced.cpu) details
  pub blocks : row.blocks ≡ sum_by (λ detail. detail.priced.excp) details
  pub amount : row.amount ≡ sum_by (λ detail. detail.priced.amount) details

-- each row sums the details of its place
abbrev pub AreSumsOf : List ChargeRow → List Detail → Type 0
AreSumsOf rows details = All (λ row. IsSumOf row (details_at details (row_key row))) rows

-- Details add up to charge rows: the rows of what they cost are these, and each row sums the details
-- of its place.
pub record AddUp (details : List Detail) (rows : List ChargeRow) : Type 0 where
  pub recomputed : rows_of (map (λ detail. detail.priced) details) ≡ rows
  pub each : AreSumsOf rows details

-- In sound books the details of each period, open or closed, add up to its statement.
abbrev pub DetailsAddUp : Type 0
DetailsAddUp =
    (naming : Naming) (book : Book) → IsSound naming book
    → All (λ period. AddUp (details_of naming book.rulings period)
    (rows_for book.rulings period.counted)) (all_periods book)

-- And those of a centre to the statement of the centre.
abbrev pub CentreDetailsAddUp : Type 0
CentreDetailsAddUp =
    (naming : Naming) (book : Book) (centre : List ℕ) → IsSound naming book
    → All (λ period.
    AreSumsOf (rows_of_centre centre (rows_for book.rulings period.counted))
    (details_of_centre centre (details_of naming book.rulings period))) (all_periods book)

-- Each record is counted by at most one period: it stands in the details of no other.
abbrev pub DetailedOnce : Type 0
DetailedOnce =
    (naming : Naming) (history : List Event) (bytes : List ℕ) → IsMadeByCalls naming history
    → times_counted (all_periods (book_after history)) bytes ≤ 1

-- The same of any book that can be read back.
abbrev pub BooksDetailOnce : Type 0
BooksDetailOnce =
    (naming : Naming) (book : Book) (bytes : List ℕ) → IsReadable naming book
    → times_counted (all_periods book) bytes ≤ 1

-- What a period counts is what is counted at all and dated in it: so an index of what is counted, by
-- day, has the details of each period in a row.
abbrev pub CountedByDay : Type 0
CountedByDay =
    (naming : Naming) (history : List Event) (number : ℕ) (period : Period)
    → IsMadeByCalls naming history
    → period_of (book_after history) number ≡ Some period
    → period.counted
    ≡ those (is_dated_in (book_after history).rulings number) (counted_of (book_after history))

-- Whether a record is counted is read from whether it is charged now and from its lines: it is where
-- what is charged now, less its plus lines and with its minus lines, is one.
abbrev pub CountedIsRead : Type 0
CountedIsRead =
    (naming : Naming) (history : List Event) (bytes : List ℕ) → IsMadeByCalls naming history
    → one_if (has (counted_of (book_after history)) bytes)
    + times_added (all_periods (book_after history)) bytes
    ≡ one_if (has (charged_of (book_after history)) bytes)
    + times_reversed (all_periods (book_after history)) bytes
