-- What is answered to the rows of a period by another tariff, where they were found in the tables.
use Rattle.std.proofs.Common.{◌≡◌, ◌∙◌, ℕ, Bool, true, List, Some, None, Ok, Err, refl, sym, ap}
use Rattle.std.proofs.Common.{subst, Vec, filter, if◌then◌else◌, Global}
use Rattle.book_model.specs.Words.{Book, Naming, Outcome, Rulings, Terms, rows_if_room}
use Rattle.book_model.specs.Words.{what_if_outcome}
use Rattle.book_core.specs.Words.{ruled_in}
use Rattle.book_model.proofs.Std.{entries}
use Rattle.table_model.specs.Words.{Tables, tables_of, counted_rows, row_costs, is_period}
use Rattle.table_model.specs.Words.{IsReadable}
use Rattle.table_model.specs.CountedRead.{what_if_read}
use Rattle.table_ledger.proofs.Words.{Full, NoSuchPeriod, ChargeRow, View, counted_follows, State}
use Rattle.table_ledger.proofs.Words.{Saw, Remembers, costs_of, AttemptsOne, IsAt}
use Rattle.table_ledger.specs.DetailPrices.{CountsByDay, FindsRowsCounted}
use Rattle.table_ledger.specs.OtherPrices.{IsTestOf}
use Rattle.table_ledger.specs.declared.count_test.CountTest.{CountTest}
use Rattle.table_ledger.specs.declared.summary.Summary.{Summary}
use Rattle.table_ledger.proofs.Answering.{makes_answer, makes_refused}
use Rattle.table_ledger.proofs.DetailCosts.{keeps_counted}
use Rattle.table_ledger.proofs.Remembered.{rulings_are}
use Rattle.table_ledger.proofs.TryLemmas.{try_answered}

-- the rows of a vector
abbrev pub items_of : Vec ChargeRow Global → List ChargeRow
items_of rows = rows.items

-- by the test of a period the costs are those of the records that it counts
pub costs_tested : (number : ℕ) (rulings : Rulings) (terms : Terms) (tables : Tables)
    (test : CountTest) → IsTestOf number rulings tables test
    → row_costs terms (counted_rows number rulings tables)
    ≡ costs_of terms test (entries tables.records)
costs_tested number rulings terms tables test tests =
    λ i. row_costs terms (filter (λ row. sym (tests row) i) (entries tables.records))

module _ (naming : Naming) (summary : Summary) (number : ℕ) (terms : Terms) where
  module _ (there : is_period number (ruled_in summary.rulings) ≡ true) where
    -- the period counts what is kept of its days
    keeps : (book : Book) → IsReadable naming book → Remembers summary book
        → CountsByDay number (ruled_in summary.rulings) (tables_of naming book)
    keeps book whole remembers =
        subst (λ (rulings : Rulings). CountsByDay number rulings (tables_of naming book))
        (rulings_are remembers)
        (keeps_counted naming book whole number
        (ap (is_period number) (rulings_are remembers) ∙ there))

    -- the answer is that to what it counts, by what is remembered
    answered : {view : View} (book : Book) → IsAt naming summary view book
        → (what_if_outcome number terms book).answer
        ≡ rows_if_room (row_costs terms
        (counted_rows number (ruled_in summary.rulings) (tables_of naming book)))
    answered book at =
        ap (λ (outcome : Outcome (List ChargeRow)). outcome.answer)
        (counted_follows.what_if naming book number terms at.kept.readable)
        ∙ ap (λ (rulings : Rulings). what_if_read number terms rulings (tables_of naming book))
        (rulings_are at.remembers)
        ∙ ap (λ (there : Bool). if there
        then rows_if_room (row_costs terms
        (counted_rows number (ruled_in summary.rulings) (tables_of naming book)))
        else Err NoSuchPeriod) there

    -- the books cannot hold what the records cost
    pub what_if_full : {old new : State}
        → Saw old new (λ tables. FindsRowsCounted number (ruled_in summary.rulings) terms tables
        None)
        → AttemptsOne items_of naming summary summary old new (what_if_outcome number terms)
        (Ok (Err Full))
    what_if_full saw =
        try_answered (what_if_outcome number terms) saw (record { stored = refl; served = refl })
        (λ book at finds. makes_refused items_of (what_if_outcome number terms book) Full
        (answered book at ∙ finds (keeps book at.kept.readable at.remembers)))

    -- the rows are found
    pub what_if_found : {old new : State} (rows : Vec ChargeRow Global)
        → Saw old new (λ tables. FindsRowsCounted number (ruled_in summary.rulings) terms tables
        (Some rows))
        → AttemptsOne items_of naming summary summary old new (what_if_outcome number terms)
        (Ok (Ok rows))
    what_if_found rows saw =
        try_answered (what_if_outcome number terms) saw (record { stored = refl; served = refl })
        (λ book at finds. makes_answer items_of (what_if_outcome number terms book) rows
        (answered book at ∙ finds (keeps book at.kept.readable at.remembers)) refl)
