use Rattle.std.proofs.Common.{Vec, Global, refl}
use Rattle.book_model.specs.declared.row.ChargeRow.{ChargeRow}
use Rattle.book_model.specs.Words.{period_of, what_if_outcome}
use Rattle.book_core.proofs.OpenAnswers.{what_if_open}
use Rattle.plain_ledger.specs.LedgerBook.{ledger_book}
use Rattle.plain_ledger.specs.PlainBook.{naming_in}
use Rattle.plain_ledger.proofs.PlainCallLemmas.{read_in_memory}
use Rattle.plain_ledger.proofs.ledger.PlainLedgerLedger.charges_under.Goals as goal

pub returns-clause-rows : goal.returns-clause-rows
returns-clause-rows g c =
    let ledger = c.args.self.now in
    let names = g.N.Naming.name_of (naming_in ledger.books) in
    let terms = c.args.tariff.now in
    read_in_memory (λ (rows : Vec ChargeRow Global). rows.items) names
    (ledger_book ledger) c.charge_rows_under.result (what_if_outcome c.args.period terms) refl
    (what_if_open terms (period_of (ledger_book ledger) c.args.period))
    c.charge_rows_under.ensures.rows
