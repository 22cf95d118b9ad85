use Rattle.std.proofs.Common.{◌≡◌, ◌++◌, take}
use Rattle.report_texts.specs.PeriodLists.{closed_lines}
use Rattle.report_texts.proofs.period_lists.push_closed.Given as goal

-- the lines of the periods so far are appended
abbrev pub invariant-loop-before : goal.invariant-loop-before
invariant-loop-before l =
    l.out ≡ l.initial.out ++ closed_lines 1 (take l.before l.closes)
