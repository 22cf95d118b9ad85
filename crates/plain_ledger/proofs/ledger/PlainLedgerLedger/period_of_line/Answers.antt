use Rattle.std.proofs.Common.{Option, ℕ, refl}
use Rattle.book_model.specs.Words.{line_period_outcome}
use Rattle.book_core.proofs.OpenAnswers.{answered_open}
use Rattle.plain_ledger.specs.LedgerBook.{ledger_book}
use Rattle.plain_ledger.specs.PlainBook.{naming_in}
use Rattle.plain_ledger.proofs.PlainCallLemmas.{read_in_memory}
use Rattle.plain_ledger.proofs.ledger.PlainLedgerLedger.period_of_line.Goals as goal

pub returns : goal.returns
returns g c =
    let ledger = c.args.self.now in
    let names = g.N.Naming.name_of (naming_in ledger.books) in
    read_in_memory (λ (period : Option ℕ). period) names (ledger_book ledger) c.line_period.result
    (line_period_outcome names c.args.number c.args.line.now) refl (answered_open _)
    c.line_period.ensures
