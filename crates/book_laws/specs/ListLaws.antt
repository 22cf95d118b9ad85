-- The lists of all periods, as a ledger answers them, and what they amount to.
use Rattle.std.specs.Prelude.{◌≡◌, ◌+◌, ◌-ℤ◌, ℕ, suc, pos, List, [], ◌∷◌, length, map, sum_by, Ok}
use Rattle.std.specs.Prelude.{Vec}
use Rattle.std.specs.Global.{Global}
use Rattle.book_model.specs.declared.line.Line.{Line}
use Rattle.book_model.specs.declared.row.ChargeRow.{ChargeRow}
use Rattle.book_model.specs.Words.{total_of, IsMadeByCalls, Book, charged_of, open_number, Event}
use Rattle.book_model.specs.Words.{book_after, book_of, Naming}
use Rattle.table_model.specs.Readable.{IsReadable}
use Rattle.book_core.specs.Ledgers.{Seen, IsOpenAt}
use Rattle.book_laws.specs.PeriodAmounts.{plus_of, minus_of}
use Rattle.office.specs.Laws.{IsStillOpen}
use Rattle.book_laws.specs.Calls.{Call, ReadCharges, ReadAdjustments, Step, AreDone, calls_of}
use Rattle.book_laws.specs.Calls.{ledger_after_calls}

-- what was answered for one period: its charge rows, and then its adjustment lines
pub record PeriodLists : Type 0 where
  pub rows : Vec ChargeRow Global
  pub lines : Vec Line Global

-- the calls that were answered so, for the period of a number and for each after it
abbrev pub list_calls : ℕ → List PeriodLists → List Call
list_calls number [] = []
list_calls number (period ∷ later) =
    ReadCharges number (Ok period.rows) ∷ ReadAdjustments number (Ok period.lines)
    ∷ list_calls (suc number) later

abbrev pub rows_in : List PeriodLists → List (List ChargeRow)
rows_in periods = map (λ period. period.rows.items) periods

abbrev pub lines_in : List PeriodLists → List (List Line)
lines_in periods = map (λ period. period.lines.items) periods

-- what all the rows cost
abbrev pub rows_cost : List (List ChargeRow) → ℕ
rows_cost rows = sum_by (λ some. sum_by (λ row. row.amount) some) rows

-- Nothing is lost or made: a ledger at the books of any history that calls made is asked for the
-- lists of its periods, from the first to the open one, and answers them all. Then all rows and
-- plus lines, less all minus lines, add up to what the records charged by the history cost.
abbrev pub ListsConserve : {L : Type 0} → (L → Seen) → Type 0
ListsConserve {L} seen =
    (naming : Naming) (history : List Event) (before : L) (steps : List (Step L))
    (periods : List PeriodLists)
    → IsMadeByCalls naming history → IsOpenAt naming (book_after history) (seen before)
    → AreDone seen before steps → IsStillOpen (seen (ledger_after_calls before steps))
    → calls_of steps ≡ list_calls 1 periods
    → length periods ≡ open_number (book_of history)
    → let book : Book = book_of history in
    pos (rows_cost (rows_in periods) + sum_by plus_of (lines_in periods))
    -ℤ pos (sum_by minus_of (lines_in periods))
    ≡ pos (total_of book.rulings (charged_of book))

-- The same of a ledger that is open at any book that can be read back.
abbrev pub BookListsConserve : {L : Type 0} → (L → Seen) → Type 0
BookListsConserve {L} seen =
    (naming : Naming) (book : Book) (before : L) (steps : List (Step L))
    (periods : List PeriodLists)
    → IsReadable naming book → IsOpenAt naming book (seen before)
    → AreDone seen before steps → IsStillOpen (seen (ledger_after_calls before steps))
    → calls_of steps ≡ list_calls 1 periods
    → length periods ≡ open_number book
    → pos (rows_cost (rows_in periods) + sum_by plus_of (lines_in periods))
    -ℤ pos (sum_by minus_of (lines_in periods))
    ≡ pos (total_of book.rulings (charged_of book))
