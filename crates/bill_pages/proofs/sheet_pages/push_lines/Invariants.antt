use Rattle.std.proofs.Common.{◌≡◌, ◌++◌, decimal, flat_map, take}
use Rattle.bill_pages.specs.SheetPages.{line_page}
use Rattle.bill_pages.proofs.sheet_pages.push_lines.Given as goal

-- the rows so far are appended
abbrev pub invariant-loop-row : goal.invariant-loop-row
invariant-loop-row l =
    l.out
    ≡ l.initial.out
    ++ flat_map (line_page (decimal l.period) l.layout) (take l.row-index l.rows)
