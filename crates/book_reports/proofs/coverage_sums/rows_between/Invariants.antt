use Rattle.std.proofs.Common.{◌≡◌, ◌++◌, ◌+ℤ◌, pos, flat_map}
use Rattle.std.specs.Int.{int_gap}
use Rattle.coverage_texts.proofs.CoverageLemmas.{days_through}
use Rattle.book_reports.proofs.Words.{rows_on}
use Rattle.book_reports.proofs.coverage_sums.rows_between.Given as goal

-- the rows so far, and those of the days that are left, are all
abbrev pub invariant-loop-day : goal.invariant-loop-day
invariant-loop-day l =
    l.made.items ++ flat_map (rows_on l.rows.entries l.systems) (days_through l.day l.last)
    ≡ flat_map (rows_on l.rows.entries l.systems) (days_through l.fn.first l.last)

-- the days that are left
abbrev pub decreases-loop-day : goal.decreases-loop-day
decreases-loop-day l = int_gap l.day (l.last +ℤ pos 1)
