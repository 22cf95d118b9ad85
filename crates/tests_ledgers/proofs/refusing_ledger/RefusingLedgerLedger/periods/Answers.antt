use Rattle.std.proofs.Common.{Vec, Global}
use Rattle.std.specs.Prelude.{ℤ}
use Rattle.tests_ledgers.proofs.RefusalLemmas.{refused_as}
use Rattle.tests_ledgers.proofs.refusing_ledger.RefusingLedgerLedger.periods.Goals as goal

pub returns-then-is_due-clause-days : goal.returns-then-is_due-clause-days
returns-then-is_due-clause-days g c =
    refused_as _ (λ (days : Vec ℤ Global). days.items) _ _ _ _ c.refusal.ensures
