use Rattle.std.proofs.Common.{◌≡◌, ◌++◌, drop, map}
use Rattle.book_model.specs.Words.{line_alone}
use Rattle.book_reports.proofs.bill_lines.lines_alone.Given as goal

-- with the lines that are left they are all
abbrev pub invariant-loop-line : goal.invariant-loop-line
invariant-loop-line l =
    l.billed.items ++ map line_alone (drop l.line-index l.lines) ≡ map line_alone l.lines
