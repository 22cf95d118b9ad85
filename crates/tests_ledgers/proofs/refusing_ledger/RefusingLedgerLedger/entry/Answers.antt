use Rattle.std.proofs.Common.{Option}
use Rattle.std.specs.Option.{option_map}
use Rattle.book_model.specs.declared.entry.ListedEntry.{ListedEntry}
use Rattle.book_model.specs.Words.{entry_shown}
use Rattle.tests_ledgers.proofs.RefusalLemmas.{refused_as}
use Rattle.tests_ledgers.proofs.refusing_ledger.RefusingLedgerLedger.entry.Goals as goal

pub returns-then-is_due-clause-entry : goal.returns-then-is_due-clause-entry
returns-then-is_due-clause-entry g c =
    refused_as _ (λ (found : Option ListedEntry). option_map entry_shown found) _ _ _ _
    c.refusal.ensures
