use Rattle.std.proofs.Common.{◌≡◌, ◌++◌, take}
use Rattle.std.specs.List.{flat_map}
use Rattle.page_texts.specs.PeriodTables.{adjustment_row}
use Rattle.page_texts.proofs.period_adjustments.push_lines.Given as goal

-- the rows of the lines so far are appended
abbrev pub invariant-loop-line : goal.invariant-loop-line
invariant-loop-line l =
    l.out
    ≡ l.initial.out ++ flat_map adjustment_row (take l.line-index l.lines)
