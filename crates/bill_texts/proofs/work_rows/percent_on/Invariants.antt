use Rattle.std.proofs.Common.{◌≡◌, fold, take}
use Rattle.bill_texts.specs.WorkRows.{percent_by}
use Rattle.bill_texts.proofs.work_rows.percent_on.Given as goal

-- it is that of the last entry so far
abbrev pub invariant-loop-shift : goal.invariant-loop-shift
invariant-loop-shift l =
    l.found ≡ fold (percent_by l.day l.name) 0 (take l.shift-index l.shifts)
