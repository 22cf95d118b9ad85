use Rattle.std.proofs.Common.{Vec, Global}
use Rattle.book_model.specs.declared.line.Line.{Line}
use Rattle.tests_ledgers.proofs.RefusalLemmas.{refused_as}
use Rattle.tests_ledgers.proofs.refusing_ledger.RefusingLedgerLedger.adjustments.Goals as goal

pub returns-then-is_due-clause-lines : goal.returns-then-is_due-clause-lines
returns-then-is_due-clause-lines g c =
    refused_as _ (λ (lines : Vec Line Global). lines.items) _ _ _ _ c.refusal.ensures
