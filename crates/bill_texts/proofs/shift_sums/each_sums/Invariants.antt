use Rattle.std.proofs.Common.{◌≡◌, map, take}
use Rattle.bill_texts.specs.ShiftSums.{sums_at}
use Rattle.bill_texts.proofs.shift_sums.each_sums.Given as goal

-- the sums of the places so far are there
abbrev pub invariant-loop-place : goal.invariant-loop-place
invariant-loop-place l = l.sums.items ≡ map (sums_at l.rows) (take l.place-index l.places)
