use Rattle.std.proofs.Common.{Vec, Global, refl, ℤ}
use Rattle.book_model.specs.Words.{periods_outcome}
use Rattle.book_core.proofs.OpenAnswers.{answered_open}
use Rattle.plain_ledger.specs.LedgerBook.{ledger_book}
use Rattle.plain_ledger.specs.PlainBook.{naming_in}
use Rattle.plain_ledger.proofs.PlainCallLemmas.{read_in_memory}
use Rattle.plain_ledger.proofs.ledger.PlainLedgerLedger.periods.Goals as goal

pub returns-clause-days : goal.returns-clause-days
returns-clause-days g c =
    let ledger = c.args.self.now in
    let names = g.N.Naming.name_of (naming_in ledger.books) in
    read_in_memory (λ (days : Vec ℤ Global). days.items) names
    (ledger_book ledger) c.close_days.result (periods_outcome) refl (answered_open _)
    c.close_days.ensures.days
