use Rattle.std.proofs.Common.{Option}
use Rattle.std.specs.Option.{option_map}
use Rattle.book_model.specs.declared.bill.Credit.{Credit}
use Rattle.book_model.specs.Words.{credit_shown}
use Rattle.tests_ledgers.proofs.RefusalLemmas.{refused_as}
use Rattle.tests_ledgers.proofs.refusing_ledger.RefusingLedgerLedger.credit_given.Goals as goal

pub returns-then-is_due : goal.returns-then-is_due
returns-then-is_due g c =
    refused_as _ (λ (found : Option Credit). option_map credit_shown found) _ _ _ _
    c.refusal.ensures
