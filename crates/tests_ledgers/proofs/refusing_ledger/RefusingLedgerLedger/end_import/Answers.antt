use Rattle.tests_ledgers.proofs.RefusalLemmas.{refused_as}
use Rattle.tests_ledgers.proofs.refusing_ledger.RefusingLedgerLedger.end_import.Goals as goal

pub returns-then-is_due : goal.returns-then-is_due
returns-then-is_due g c =
    refused_as _ (λ (done : Unit {0}). done) _ _ _ _ c.refusal.ensures
