use Rattle.book_model.specs.declared.answer.Accepted.{Accepted}
use Rattle.tests_ledgers.proofs.RefusalLemmas.{refused_as}
use Rattle.tests_ledgers.proofs.refusing_ledger.RefusingLedgerLedger.accept.Goals as goal

pub returns-then-is_due : goal.returns-then-is_due
returns-then-is_due g c =
    refused_as _ (λ (accepted : Accepted). accepted) _ _ _ _ c.refusal.ensures
