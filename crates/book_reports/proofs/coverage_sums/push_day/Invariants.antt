use Rattle.std.proofs.Common.{◌≡◌, ◌++◌, map, take}
use Rattle.book_reports.specs.CoverageSums.{row_on}
use Rattle.book_reports.proofs.coverage_sums.push_day.Given as goal

-- the rows of the systems so far are added
abbrev pub invariant-loop-system : goal.invariant-loop-system
invariant-loop-system l =
    l.made.items
    ≡ l.initial.made.items ++ map (row_on l.rows.entries l.day) (take l.system-index l.systems)
