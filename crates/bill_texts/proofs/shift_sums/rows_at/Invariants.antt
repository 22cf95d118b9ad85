use Rattle.std.proofs.Common.{◌≡◌, take}
use Rattle.bill_texts.specs.ShiftSums.{rows_at}
use Rattle.bill_texts.proofs.shift_sums.rows_at.Given as goal

-- those so far that stand at the place are there
abbrev pub invariant-loop-row : goal.invariant-loop-row
invariant-loop-row l = l.own.items ≡ rows_at (take l.row-index l.rows) l.place
