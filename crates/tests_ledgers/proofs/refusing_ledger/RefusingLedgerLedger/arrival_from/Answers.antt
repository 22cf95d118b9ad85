use Rattle.std.proofs.Common.{Option}
use Rattle.book_model.specs.declared.entry.Arrival.{Arrival}
use Rattle.tests_ledgers.proofs.RefusalLemmas.{refused_as}
use Rattle.tests_ledgers.proofs.refusing_ledger.RefusingLedgerLedger.arrival_from.Goals as goal

pub returns-then-is_due : goal.returns-then-is_due
returns-then-is_due g c =
    refused_as _ (λ (found : Option Arrival). found) _ _ _ _ c.refusal.ensures
