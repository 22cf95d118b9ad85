use Rattle.std.proofs.Common.{◌≡◌, ◌++◌, take, flat_map}
use Rattle.coverage_texts.specs.Coverage.{coverage_line}
use Rattle.coverage_texts.proofs.coverage_texts.push_rows.Given as goal

-- the lines of the rows so far are appended
abbrev pub invariant-loop-row : goal.invariant-loop-row
invariant-loop-row l =
    l.out ≡ l.initial.out ++ flat_map coverage_line (take l.row-index l.rows)
