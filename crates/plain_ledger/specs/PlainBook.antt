-- The books of a plain ledger, without a journal.
use Rattle.std.specs.Prelude.{◌≡◌, List, [], map, Result}
use Rattle.book_model.specs.declared.fault.LedgerFault.{LedgerFault}
use Rattle.book_model.specs.Words.{Rulings, Period, Book, Outcome, IsBookCall}
use Rattle.book_model.specs.declared.naming.Naming.{Ghosts}
use Rattle.plain_ledger.specs.declared.treatment.ClosedPeriod.{ClosedPeriod}
use Rattle.plain_ledger.specs.declared.period.Period.{Period as ReadPeriod}
use Rattle.plain_ledger.specs.declared.plain.PlainBooks.{PlainBooks}
use Rattle.plain_ledger.specs.Plain.{Entry, held_in, ruled_by}
use Rattle.plain_ledger.specs.Treatments.{Names, records_where, has_name_in, period_with}
use Rattle.plain_ledger.specs.Treatments.{treatment_closed, treatment_in}

-- the book of such rulings, entries, posted names and closed periods, with no journal
abbrev pub book_with : Rulings → List Entry → Names → List ClosedPeriod → Book
book_with rulings entries posted closed = record {
  rulings = rulings;
  held = held_in entries;
  posted = records_where (has_name_in posted) entries;
  past = map (λ period. period_with (treatment_closed period) entries) closed;
  journal = [];
}

module _ {N : Type 0} {names : Ghosts N} where
  abbrev pub naming_in : PlainBooks N names → N
  naming_in ledger = ledger.naming

  abbrev pub book_in : PlainBooks N names → Book
  book_in ledger =
      book_with
      (ruled_by ledger.rulings ledger.choices.items ledger.replaced.items ledger.credits.items)
      ledger.held.entries ledger.posted ledger.closed.items

  -- a period that is read of books
  abbrev pub period_in : PlainBooks N names → ReadPeriod → Period
  period_in ledger period = period_with (treatment_in period ledger.posted) ledger.held.entries

  -- A call of such books is one on their book. They name records as before.
  pub record IsPlainCall {V A : Type 0} (view : V → A) (old new : PlainBooks N names)
      (result : Result V LedgerFault) (outcome : Book → Outcome A) : Type 0 where
    pub call : IsBookCall view (book_in old) (book_in new) result outcome
    pub naming : naming_in new ≡ naming_in old
