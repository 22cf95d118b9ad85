use Rattle.std.proofs.Common.{take}
use Rattle.report_texts.specs.CentreAmounts.{AreAmounts, line_amount}
use Rattle.report_texts.proofs.centre_amounts.line_amounts.Given as goal

-- each centre has what its lines so far reverse, or charge
abbrev pub invariant-loop-line : goal.invariant-loop-line
invariant-loop-line l =
    AreAmounts l.amounts.entries (line_amount l.is_reversed (take l.line-index l.lines))
