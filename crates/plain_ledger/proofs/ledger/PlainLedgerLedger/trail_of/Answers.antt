use Rattle.std.proofs.Common.{refl}
use Rattle.book_model.specs.Words.{trail_outcome, trail_shown}
use Rattle.book_core.proofs.OpenAnswers.{named_open}
use Rattle.plain_ledger.specs.LedgerBook.{ledger_book}
use Rattle.plain_ledger.specs.PlainBook.{naming_in}
use Rattle.plain_ledger.proofs.PlainCallLemmas.{read_in_memory}
use Rattle.plain_ledger.proofs.ledger.PlainLedgerLedger.trail_of.Goals as goal

pub returns-clause-trail : goal.returns-clause-trail
returns-clause-trail g c =
    let ledger = c.args.self.now in
    let names = g.N.Naming.name_of (naming_in ledger.books) in
    read_in_memory trail_shown names (ledger_book ledger) c.trail_held.result
    (trail_outcome names c.args.name.now) refl
    (named_open _) c.trail_held.ensures.trail
