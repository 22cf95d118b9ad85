use Rattle.std.proofs.Common.{◌≡◌, ◌++◌, map, take}
use Rattle.book_model.specs.Words.{billed_shift}
use Rattle.book_reports.proofs.bill_shifts.push_shifts.Given as goal

-- the shifts so far have joined those that were there
abbrev pub invariant-loop-shift : goal.invariant-loop-shift
invariant-loop-shift l =
    l.billed.items
    ≡ l.initial.billed.items ++ map (billed_shift l.day) (take l.shift-index l.shifts)
