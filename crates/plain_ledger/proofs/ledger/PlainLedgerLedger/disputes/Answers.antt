use Rattle.std.proofs.Common.{Vec, Global, refl, map}
use Rattle.book_model.specs.declared.dispute.Dispute.{Dispute}
use Rattle.book_model.specs.Words.{dispute_shown, disputes_outcome}
use Rattle.book_core.proofs.OpenAnswers.{answered_open}
use Rattle.plain_ledger.specs.LedgerBook.{ledger_book}
use Rattle.plain_ledger.specs.PlainBook.{naming_in}
use Rattle.plain_ledger.proofs.PlainCallLemmas.{read_in_memory}
use Rattle.plain_ledger.proofs.ledger.PlainLedgerLedger.disputes.Goals as goal

pub returns-clause-disputes : goal.returns-clause-disputes
returns-clause-disputes g c =
    let ledger = c.args.self.now in
    let names = g.N.Naming.name_of (naming_in ledger.books) in
    read_in_memory (λ (found : Vec Dispute Global). map dispute_shown found.items) names
    (ledger_book ledger) c.disputes_held.result (disputes_outcome names) refl (answered_open _)
    c.disputes_held.ensures.disputes
