use Rattle.std.proofs.Common.{Vec, Global, ℕ}
use Rattle.tests_ledgers.proofs.RefusalLemmas.{refused_as}
use Rattle.tests_ledgers.proofs.refusing_ledger.RefusingLedgerLedger.record_named.Goals as goal

pub returns-then-is_due-clause-bytes : goal.returns-then-is_due-clause-bytes
returns-then-is_due-clause-bytes g c =
    refused_as _ (λ (bytes : Vec ℕ Global). bytes.items) _ _ _ _ c.refusal.ensures
