use Rattle.std.proofs.Common.{Option}
use Rattle.std.specs.Option.{option_map}
use Rattle.book_model.specs.declared.listed_ruling.ListedRuling.{ListedRuling}
use Rattle.book_model.specs.Words.{ruling_shown}
use Rattle.tests_ledgers.proofs.RefusalLemmas.{refused_as}
use Rattle.tests_ledgers.proofs.refusing_ledger.RefusingLedgerLedger.ruling.Goals as goal

pub returns-then-is_due-clause-ruling : goal.returns-then-is_due-clause-ruling
returns-then-is_due-clause-ruling g c =
    refused_as _ (λ (found : Option ListedRuling). option_map ruling_shown found) _ _ _ _
    c.refusal.ensures
