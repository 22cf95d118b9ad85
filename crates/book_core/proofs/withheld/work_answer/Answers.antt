use Rattle.std.proofs.Common.{◌∙◌, Err, ap, sym}
use Rattle.book_core.proofs.WithholdingLemmas.{absent_fault}
use Rattle.book_core.proofs.withheld.work_answer.Goals as goal

-- the record is not held
pub returns-then-is_not_held-clause-answer : goal.returns-then-is_not_held-clause-answer
returns-then-is_not_held-clause-answer c =
    c.in-Err.is
    ∙ ap Err (absent_fault c.in-Err.fault (sym c.is_not_held.ensures ∙ c.if-is_not_held.true))

-- or another fault is told
pub returns-else-is_not_held-clause-held : goal.returns-else-is_not_held-clause-held
returns-else-is_not_held-clause-held c = sym c.is_not_held.ensures ∙ c.if-is_not_held.false
