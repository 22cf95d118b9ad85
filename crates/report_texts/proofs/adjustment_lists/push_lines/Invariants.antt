use Rattle.std.proofs.Common.{◌≡◌, ◌++◌, take, flat_map}
use Rattle.report_texts.specs.AdjustmentLists.{adjustment_line}
use Rattle.report_texts.proofs.adjustment_lists.push_lines.Given as goal

-- the lines of the records so far are appended
abbrev pub invariant-loop-line : goal.invariant-loop-line
invariant-loop-line l =
    l.out ≡ l.initial.out ++ flat_map adjustment_line (take l.line-index l.lines)
