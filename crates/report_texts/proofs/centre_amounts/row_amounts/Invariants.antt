use Rattle.std.proofs.Common.{take}
use Rattle.report_texts.specs.CentreAmounts.{AreAmounts, cost_of}
use Rattle.report_texts.proofs.centre_amounts.row_amounts.Given as goal

-- each centre has what its rows so far come to
abbrev pub invariant-loop-row : goal.invariant-loop-row
invariant-loop-row l = AreAmounts l.amounts.entries (cost_of (take l.row-index l.rows))
