use Rattle.std.proofs.Common.{◌≡◌, take}
use Rattle.page_texts.specs.Figures.{sums_by_day}
use Rattle.page_texts.proofs.figures.day_sums.Given as goal

-- the map holds what the rows so far cost
abbrev pub invariant-loop-row : goal.invariant-loop-row
invariant-loop-row l = l.costs.entries ≡ sums_by_day (take l.row-index l.rows)
