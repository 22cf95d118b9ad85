use Rattle.std.proofs.Common.{◌∙◌, ap, refl}
use Rattle.book_model.specs.Words.{change_newest, end_with, stop_shown}
use Rattle.plain_ledger.specs.LedgerBook.{with_entries}
use Rattle.plain_ledger.specs.PlainBook.{book_in}
use Rattle.plain_ledger.proofs.ledger.PlainLedger.end_told.Goals as goal

pub returns-clause-call : goal.returns-clause-call
returns-clause-call g c = record {
  answer = refl;
  book = ap (with_entries (book_in c.args.self.now.books))
      (c.add.ensures
      ∙ ap (change_newest (end_with (stop_shown c.args.stop))) c.reserve.ensures.same);
}
