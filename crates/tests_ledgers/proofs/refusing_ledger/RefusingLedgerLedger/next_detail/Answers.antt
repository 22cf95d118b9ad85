use Rattle.std.proofs.Common.{Option}
use Rattle.book_model.specs.declared.detail.Detail.{Detail}
use Rattle.tests_ledgers.proofs.RefusalLemmas.{refused_as}
use Rattle.tests_ledgers.proofs.refusing_ledger.RefusingLedgerLedger.next_detail.Goals as goal

pub returns-then-is_due-clause-detail : goal.returns-then-is_due-clause-detail
returns-then-is_due-clause-detail g c =
    refused_as _ (λ (found : Option Detail). found) _ _ _ _ c.refusal.ensures
