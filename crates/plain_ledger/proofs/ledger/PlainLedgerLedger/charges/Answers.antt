use Rattle.std.proofs.Common.{Vec, Global, refl}
use Rattle.book_model.specs.declared.row.ChargeRow.{ChargeRow}
use Rattle.book_model.specs.Words.{charges_outcome}
use Rattle.book_core.proofs.OpenAnswers.{listed_open}
use Rattle.plain_ledger.specs.LedgerBook.{ledger_book}
use Rattle.plain_ledger.specs.PlainBook.{naming_in}
use Rattle.plain_ledger.proofs.PlainCallLemmas.{read_in_memory}
use Rattle.plain_ledger.proofs.ledger.PlainLedgerLedger.charges.Goals as goal

pub returns-clause-rows : goal.returns-clause-rows
returns-clause-rows g c =
    let ledger = c.args.self.now in
    let names = g.N.Naming.name_of (naming_in ledger.books) in
    read_in_memory (λ (rows : Vec ChargeRow Global). rows.items) names
    (ledger_book ledger) c.charge_rows.result (charges_outcome c.args.period) refl (listed_open _)
    c.charge_rows.ensures.rows
