use Rattle.std.proofs.Common.{◌≡◌, map, take}
use Rattle.bill_texts.specs.ShiftSums.{dated_since}
use Rattle.bill_texts.proofs.shift_sums.dated_rows.Given as goal

-- the rows so far are there
abbrev pub invariant-loop-row : goal.invariant-loop-row
invariant-loop-row l = l.dated.items ≡ map (dated_since l.tariffs) (take l.row-index l.rows)
