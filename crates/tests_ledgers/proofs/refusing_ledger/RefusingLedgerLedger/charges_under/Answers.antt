use Rattle.std.proofs.Common.{Vec, Global}
use Rattle.book_model.specs.declared.row.ChargeRow.{ChargeRow}
use Rattle.tests_ledgers.proofs.RefusalLemmas.{refused_as}
use Rattle.tests_ledgers.proofs.refusing_ledger.RefusingLedgerLedger.charges_under.Goals as goal

pub returns-then-is_due-clause-rows : goal.returns-then-is_due-clause-rows
returns-then-is_due-clause-rows g c =
    refused_as _ (λ (rows : Vec ChargeRow Global). rows.items) _ _ _ _ c.refusal.ensures
