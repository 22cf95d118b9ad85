use Rattle.std.proofs.Common.{Vec, Global, map}
use Rattle.book_model.specs.declared.dispute.Dispute.{Dispute}
use Rattle.book_model.specs.Words.{dispute_shown}
use Rattle.tests_ledgers.proofs.RefusalLemmas.{refused_as}
use Rattle.tests_ledgers.proofs.refusing_ledger.RefusingLedgerLedger.disputes.Goals as goal

pub returns-then-is_due-clause-disputes : goal.returns-then-is_due-clause-disputes
returns-then-is_due-clause-disputes g c =
    refused_as _ (λ (found : Vec Dispute Global). map dispute_shown found.items) _ _ _ _
    c.refusal.ensures
