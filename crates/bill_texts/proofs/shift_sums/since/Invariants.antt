use Rattle.std.proofs.Common.{◌≡◌, fold, take}
use Rattle.bill_texts.specs.ShiftSums.{begun_by}
use Rattle.bill_texts.proofs.shift_sums.since.Given as goal

-- it is that of the last so far that has begun
abbrev pub invariant-loop-tariff : goal.invariant-loop-tariff
invariant-loop-tariff l = l.found ≡ fold (begun_by l.day) l.day (take l.tariff-index l.tariffs)
