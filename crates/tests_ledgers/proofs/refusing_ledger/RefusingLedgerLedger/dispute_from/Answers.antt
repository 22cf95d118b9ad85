use Rattle.std.proofs.Common.{Option}
use Rattle.std.specs.Option.{option_map}
use Rattle.book_model.specs.declared.dispute.Dispute.{Dispute}
use Rattle.book_model.specs.Words.{dispute_shown}
use Rattle.tests_ledgers.proofs.RefusalLemmas.{refused_as}
use Rattle.tests_ledgers.proofs.refusing_ledger.RefusingLedgerLedger.dispute_from.Goals as goal

pub returns-then-is_due-clause-dispute : goal.returns-then-is_due-clause-dispute
returns-then-is_due-clause-dispute g c =
    refused_as _ (λ (found : Option Dispute). option_map dispute_shown found) _ _ _ _
    c.refusal.ensures
