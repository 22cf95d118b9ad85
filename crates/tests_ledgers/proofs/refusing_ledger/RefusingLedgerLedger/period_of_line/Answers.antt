use Rattle.std.proofs.Common.{Option, ℕ}
use Rattle.tests_ledgers.proofs.RefusalLemmas.{refused_as}
use Rattle.tests_ledgers.proofs.refusing_ledger.RefusingLedgerLedger.period_of_line.Goals as goal

pub returns-then-is_due : goal.returns-then-is_due
returns-then-is_due g c =
    refused_as _ (λ (period : Option ℕ). period) _ _ _ _ c.refusal.ensures
