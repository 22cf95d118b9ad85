use Rattle.std.proofs.Common.{◌≡◌, take}
use Rattle.std.specs.List.{sum_by}
use Rattle.report_texts.specs.AdjustmentLists.{charged_amount, reversed_amount}
use Rattle.report_texts.proofs.adjustment_lists.sums.Given as goal

-- what the lines so far charge, and what they reverse
abbrev pub invariant-loop-line : goal.invariant-loop-line
invariant-loop-line l = record {
  charged : l.charged ≡ sum_by charged_amount (take l.line-index l.lines);
  taken : l.taken ≡ sum_by reversed_amount (take l.line-index l.lines);
}
