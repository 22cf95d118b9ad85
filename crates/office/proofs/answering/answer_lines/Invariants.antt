use Rattle.std.proofs.Common.{◌≡◌, take}
use Rattle.office.specs.Choices.{answer_lines}
use Rattle.office.proofs.answering.answer_lines.Given as goal

-- the lines so far
abbrev pub invariant-loop-ruled : goal.invariant-loop-ruled
invariant-loop-ruled l = l.lines.items ≡ answer_lines (take l.ruled-index l.answers)
