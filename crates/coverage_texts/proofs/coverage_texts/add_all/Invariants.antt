use Rattle.std.proofs.Common.{◌≡◌, ◌++◌, take, flat_map}
use Rattle.coverage_texts.specs.Coverage.{coverage_row}
use Rattle.coverage_texts.proofs.coverage_texts.add_all.Given as goal

-- the lines of the rows so far are there
abbrev pub invariant-loop-row : goal.invariant-loop-row
invariant-loop-row l =
    l.table ≡ l.initial.table ++ flat_map (coverage_row l.period) (take l.row-index l.rows)
