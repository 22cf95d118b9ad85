use Rattle.std.proofs.Common.{Vec, Global, refl}
use Rattle.book_model.specs.declared.line.Line.{Line}
use Rattle.book_model.specs.Words.{adjustments_outcome}
use Rattle.book_core.proofs.OpenAnswers.{listed_open}
use Rattle.plain_ledger.specs.LedgerBook.{ledger_book}
use Rattle.plain_ledger.specs.PlainBook.{naming_in}
use Rattle.plain_ledger.proofs.PlainCallLemmas.{read_in_memory}
use Rattle.plain_ledger.proofs.ledger.PlainLedgerLedger.adjustments.Goals as goal

pub returns-clause-lines : goal.returns-clause-lines
returns-clause-lines g c =
    let ledger = c.args.self.now in
    let names = g.N.Naming.name_of (naming_in ledger.books) in
    read_in_memory (λ (lines : Vec Line Global). lines.items) names
    (ledger_book ledger) c.lines.result (adjustments_outcome names c.args.period) refl
    (listed_open _)
    c.lines.ensures.lines
