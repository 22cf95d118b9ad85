use Rattle.std.proofs.Common.{◌≡◌, take}
use Rattle.report_texts.specs.Charges.{plain_lines}
use Rattle.report_texts.proofs.charges.plain_lines.Given as goal

-- the lines so far are pushed
abbrev pub invariant-loop-one : goal.invariant-loop-one
invariant-loop-one l = l.lines.items ≡ plain_lines (take l.one-index l.billed)
