use Rattle.std.proofs.Common.{◌≡◌, ◌++◌, ◌+ℤ◌, map, pos}
use Rattle.std.specs.Int.{int_gap}
use Rattle.coverage_texts.proofs.CoverageLemmas.{days_through}
use Rattle.page_texts.specs.Figures.{day_cost}
use Rattle.page_texts.proofs.figures.costs_through.Given as goal

-- the costs so far, and those of the days that are left, are all
abbrev pub invariant-loop-day : goal.invariant-loop-day
invariant-loop-day l =
    l.costs.items ++ map (day_cost l.sums.entries) (days_through l.day l.last)
    ≡ map (day_cost l.sums.entries) (days_through l.fn.first l.last)

-- the days that are left
abbrev pub decreases-loop-day : goal.decreases-loop-day
decreases-loop-day l = int_gap l.day (l.last +ℤ pos 1)
