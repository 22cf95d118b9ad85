use Rattle.std.proofs.Common.{◌≡◌, map, take}
use Rattle.bill_texts.specs.Booked.{booked_of_all, owed_by}
use Rattle.bill_texts.proofs.booking.booked_by_all.Given as goal

-- it is what the centres so far book
abbrev pub invariant-loop-one : goal.invariant-loop-one
invariant-loop-one l = l.sum ≡ booked_of_all l.unit (map owed_by (take l.one-index l.each))
