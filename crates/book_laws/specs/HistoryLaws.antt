-- The laws of whole histories.
use Rattle.std.specs.Prelude.{◌≡◌, ℕ, ◌+◌, true, false, All, List, Option, Some, slice_get, ℤ, pos}
use Rattle.std.specs.Prelude.{◌-ℤ◌, ◌++◌}
use Rattle.book_model.specs.Words.{Period, Book, charged_of, all_periods, is_dated_after, Event}
use Rattle.book_model.specs.Words.{book_after, day_of_close, Naming, Rulings, has, total_of}
use Rattle.book_model.specs.Words.{IsAnswered, IsMadeByCalls, IsSound, after, after_all}
use Rattle.table_model.specs.Words.{IsSubmittedTo, IsReadable}
use Rattle.book_laws.specs.NetCounts.{net_count, one_if, NamesOnce}
use Rattle.book_laws.specs.PeriodLines.{AreReadOnce}
use Rattle.book_laws.specs.ClosedPeriods.{IsClosed, IsReadAlike}
use Rattle.book_model.specs.MadeByCalls.{AreMadeOf}
use Rattle.book_laws.specs.PeriodAmounts.{rows_amount, plus_amount, minus_amount, added_cost}
use Rattle.book_laws.specs.PeriodAmounts.{reversed_cost}

-- Over all periods of the book that a history leaves, including the open one, a record that is
-- charged now is charged once net; any other nets to nothing.
abbrev pub ChargedOnce : Type 0
ChargedOnce =
    (history : List Event) (bytes : List ℕ)
    → net_count (all_periods (book_after history)) bytes
    ≡ pos (one_if (has (charged_of (book_after history)) bytes))

-- The same of any book that can be read back, wherever it came from.
abbrev pub BooksChargeOnce : Type 0
BooksChargeOnce =
    (naming : Naming) (book : Book) (bytes : List ℕ) → IsReadable naming book
    → net_count (all_periods book) bytes ≡ pos (one_if (has (charged_of book) bytes))

-- What a call makes of a book that can be read back is such a book again, wherever it came from.
abbrev pub ReadableStays : Type 0
ReadableStays =
    (naming : Naming) (book : Book) (event : Event) → IsReadable naming book
    → IsSubmittedTo book event → IsAnswered naming event book → IsReadable naming (after event book)

-- Over the closed periods alone it is charged once net if the last close charged it.
abbrev pub PostedOnce : Type 0
PostedOnce =
    (history : List Event) (bytes : List ℕ)
    → net_count (book_after history).past bytes
    ≡ pos (one_if (has (book_after history).posted bytes))

-- what a period counts is dated after the close before it, and what it adds is not
pub record AreDated (last : Option ℤ) (period : Period) : Type 0 where
  pub counted : (bytes : List ℕ) → has period.counted bytes ≡ true
      → is_dated_after last bytes ≡ true
  pub added : (bytes : List ℕ) → has period.added bytes ≡ true → is_dated_after last bytes ≡ false

-- This holds in each period of the book that a history leaves: in the one after k closes by the day
-- of close k.
abbrev pub DatedRight : Type 0
DatedRight =
    (history : List Event) (k : ℕ) (period : Period)
    → slice_get (all_periods (book_after history)) k ≡ Some period
    → AreDated (day_of_close k history) period

-- The rows and lines of all periods of a book add up to what the records cost that are
-- charged now.
abbrev pub IsBalanced : Naming → Book → Type 0
IsBalanced naming book =
    pos (rows_amount book.rulings (all_periods book) + plus_amount naming book.rulings
    (all_periods book))
    -ℤ pos (minus_amount naming book.rulings (all_periods book))
    ≡ pos (total_of book.rulings (charged_of book))

-- the book that an answered history leaves is balanced
abbrev pub Conserved : Type 0
Conserved = (naming : Naming) (history : List Event) → IsMadeByCalls naming history
    → IsBalanced naming (book_after history)

-- and so is any book that can be read back
abbrev pub BooksConserve : Type 0
BooksConserve = (naming : Naming) (book : Book) → IsReadable naming book → IsBalanced naming book

-- The same for the periods' sets of records: for every history, and at the prices of any rulings.
abbrev pub ConservedInSets : Type 0
ConservedInSets =
    (rulings : Rulings) (history : List Event)
    → pos (rows_amount rulings (all_periods (book_after history)) + added_cost rulings
    (all_periods (book_after history)))
    -ℤ pos (reversed_cost rulings (all_periods (book_after history)))
    ≡ pos (total_of rulings (charged_of (book_after history)))

-- In each period of the book that a history leaves, no record is in two of the three sets.
abbrev pub NamedOnce : Type 0
NamedOnce = (history : List Event) → All NamesOnce (all_periods (book_after history))

-- In each period of a sound book, each record that is added or reversed has one line.
abbrev pub LinesOnce : Type 0
LinesOnce =
    (naming : Naming) (book : Book) → IsSound naming book
    → All (λ period. AreReadOnce naming book.rulings period) (all_periods book)

-- What is closed never changes: whatever comes after a period is closed, by calls, the period is
-- read as it was.
abbrev pub ClosedStays : Type 0
ClosedStays =
    (naming : Naming) (later earlier : List Event) (number : ℕ)
    → IsMadeByCalls naming (later ++ earlier)
    → IsClosed number (book_after earlier)
    → IsReadAlike naming number (book_after earlier) (book_after (later ++ earlier))

-- The same of any book that can be read back, whatever calls make of it.
abbrev pub BooksStayClosed : Type 0
BooksStayClosed =
    (naming : Naming) (book : Book) (later : List Event) (number : ℕ)
    → IsReadable naming book → AreMadeOf naming book later → IsClosed number book
    → IsReadAlike naming number book (after_all later book)
