use Rattle.std.proofs.Common.{◌≡◌, false, fold, take}
use Rattle.bill_texts.specs.WorkRows.{or_prices_work}
use Rattle.bill_texts.proofs.work_rows.jobs_have_work.Given as goal

-- some so far has such a price, or none
abbrev pub invariant-loop-tariff : goal.invariant-loop-tariff
invariant-loop-tariff l = l.found ≡ fold or_prices_work false (take l.tariff-index l.tariffs)
