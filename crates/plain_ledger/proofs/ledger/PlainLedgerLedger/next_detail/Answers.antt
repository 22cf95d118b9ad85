use Rattle.std.proofs.Common.{Option, refl}
use Rattle.book_model.specs.declared.detail.Detail.{Detail}
use Rattle.book_model.specs.Words.{next_detail_outcome}
use Rattle.book_core.proofs.OpenAnswers.{listed_open}
use Rattle.plain_ledger.specs.LedgerBook.{ledger_book}
use Rattle.plain_ledger.specs.PlainBook.{naming_in}
use Rattle.plain_ledger.proofs.PlainCallLemmas.{read_in_memory}
use Rattle.plain_ledger.proofs.ledger.PlainLedgerLedger.next_detail.Goals as goal

pub returns-clause-detail : goal.returns-clause-detail
returns-clause-detail g c =
    let ledger = c.args.self.now in
    let names = g.N.Naming.name_of (naming_in ledger.books) in
    read_in_memory (λ (found : Option Detail). found) names (ledger_book ledger) c.detail_after.result
    (next_detail_outcome names c.args.period c.args.centre c.args.after) refl (listed_open _)
    c.detail_after.ensures.detail
