use Rattle.std.proofs.Common.{Option, refl, option_map}
use Rattle.book_model.specs.declared.dispute.Dispute.{Dispute}
use Rattle.book_model.specs.Words.{dispute_outcome, dispute_shown}
use Rattle.book_core.proofs.OpenAnswers.{answered_open}
use Rattle.plain_ledger.specs.LedgerBook.{ledger_book}
use Rattle.plain_ledger.specs.PlainBook.{naming_in}
use Rattle.plain_ledger.proofs.PlainCallLemmas.{read_in_memory}
use Rattle.plain_ledger.proofs.ledger.PlainLedgerLedger.dispute_from.Goals as goal

pub returns-clause-dispute : goal.returns-clause-dispute
returns-clause-dispute g c =
    let ledger = c.args.self.now in
    let names = g.N.Naming.name_of (naming_in ledger.books) in
    read_in_memory (λ (found : Option Dispute). option_map dispute_shown found) names
    (ledger_book ledger) c.dispute_held.result (dispute_outcome names c.args.from.now) refl
    (answered_open _) c.dispute_held.ensures.dispute
