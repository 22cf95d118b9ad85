-- The laws of runs: what any list of requests leaves behind.
use Rattle.std.specs.Prelude.{◌≡◌, ◌&&◌, ℕ, Bool, List, [], ◌∷◌, None, Ok, pos}
use Rattle.book_model.specs.JournalLaws.{without_notes}
use Rattle.book_model.specs.Words.{Terms, has, Naming, is_undisputed, Book, new_book, flat_book}
use Rattle.book_model.specs.Words.{all_periods, Event, RulingGiven, TariffAccepted, book_after}
use Rattle.book_model.specs.Words.{book_of, IsMadeByCalls, rulings_in, record_batches}
use Rattle.book_laws.specs.NetCounts.{net_count, one_if}
use Rattle.book_laws.specs.HistoryLaws.{IsBalanced}
use Rattle.book_laws.specs.ClosedPeriods.{IsClosed}
use Rattle.book_reports.specs.BookTexts.{open_statement, report_answer}
use Rattle.book_reports.specs.declared.report.PeriodReport.TheVariants.{Statement}
use Rattle.book_reports.specs.declared.report.Report.TheVariants.{OfPeriod}
use Rattle.book_laws.specs.Runs.{Run, IsRunOn, IsRunAfter, book_after_run, history_with}
use Rattle.book_laws.specs.Statements.{HaveSameTexts, HaveSameTextsApart, StaysClosed}

-- New books have no history, and new books under one tariff have only that tariff: any run on them
-- is a run after it. And calls made the history that goes on with a run, so another run may follow.
pub record RunsMakeHistory : Type 0 where
  pub new : (naming : Naming) (was is : Bool) (run : Run)
      → IsRunOn naming new_book was run is → IsRunAfter naming [] run
  pub flat : (naming : Naming) (terms : Terms) (was is : Bool) (run : Run)
      → IsRunOn naming (flat_book terms) was run is
      → IsRunAfter naming (RulingGiven None (TariffAccepted None terms) ∷ []) run
  pub next : (naming : Naming) (history : List Event) (run : Run)
      → IsRunAfter naming history run → IsMadeByCalls naming (history_with history run)

-- A run leaves the book that the history with it defines, looked at as a whole.
abbrev pub RunsFollowHistory : Type 0
RunsFollowHistory =
    (naming : Naming) (history : List Event) (run : Run) → IsRunAfter naming history run
    → book_after_run history run ≡ book_of (history_with history run)

-- Over all periods of the book, including the open one, each record that is held and undisputed is
-- charged once net; any other nets to nothing.
abbrev pub ChargesOnce : Book → Type 0
ChargesOnce book =
    (bytes : List ℕ)
    → net_count (all_periods book) bytes
    ≡ pos (one_if (is_undisputed book.rulings book.held bytes && has book.held bytes))

-- Whatever run was made after a history: over all periods of the book that it leaves, each record
-- that is held and undisputed is charged once net; any other nets to nothing.
abbrev pub RunsChargeOnce : Type 0
RunsChargeOnce =
    (naming : Naming) (history : List Event) (run : Run) → IsRunAfter naming history run
    → ChargesOnce (book_after_run history run)

-- Nothing is lost or made in any run: all rows and plus lines less all minus lines, as they are
-- read, add up to what the records cost that are charged now.
abbrev pub RunsConserve : Type 0
RunsConserve =
    (naming : Naming) (history : List Event) (run : Run) → IsRunAfter naming history run
    → IsBalanced naming (book_after_run history run)

-- It makes no difference in which order records come between two rulings, and how often: histories
-- with the same rulings in the same order, and the same sets of records between neighbouring
-- rulings, leave books with the same reports. What imports say of themselves stands among the
-- rulings here.
abbrev pub RunOrderIsFree : Type 0
RunOrderIsFree =
    (naming : Naming) (before_one before_other : List Event) (one other : Run)
    → IsRunAfter naming before_one one → IsRunAfter naming before_other other
    → rulings_in (history_with before_one one) ≡ rulings_in (history_with before_other other)
    → record_batches (history_with before_one one)
    ≡ record_batches (history_with before_other other)
    → HaveSameTexts (book_after_run before_one one) (book_after_run before_other other)

-- Nor does it, but for the journal, how records are cut into dumps, requests and runs, and what
-- notes say: the same of histories without their notes, and without what imports say of
-- themselves.
abbrev pub RunCutsAreFree : Type 0
RunCutsAreFree =
    (naming : Naming) (before_one before_other : List Event) (one other : Run)
    → IsRunAfter naming before_one one → IsRunAfter naming before_other other
    → rulings_in (without_notes (history_with before_one one))
    ≡ rulings_in (without_notes (history_with before_other other))
    → record_batches (without_notes (history_with before_one one))
    ≡ record_batches (without_notes (history_with before_other other))
    → HaveSameTextsApart (book_after_run before_one one) (book_after_run before_other other)

-- Closed statements and adjustments never change, whatever requests are run after the close.
abbrev pub ClosedStatementsStay : Type 0
ClosedStatementsStay =
    (naming : Naming) (history : List Event) (run : Run) (number : ℕ)
    → IsRunAfter naming history run → IsClosed number (book_after history)
    → StaysClosed naming number (book_after history) (book_after_run history run)

-- Of books that were never closed the statement of their one period is the one that a trial shows.
abbrev pub OpenStatementIsFirst : Type 0
OpenStatementIsFirst =
    (naming : Naming) (book : Book) → book.rulings.closes ≡ []
    → report_answer naming (OfPeriod Statement 1 None) book ≡ Ok (open_statement book)
