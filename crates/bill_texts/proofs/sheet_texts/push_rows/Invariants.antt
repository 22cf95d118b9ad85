use Rattle.std.proofs.Common.{◌≡◌, ◌++◌, take, flat_map}
use Rattle.bill_texts.specs.SheetTexts.{row_text}
use Rattle.bill_texts.proofs.sheet_texts.push_rows.Given as goal

-- the lines of the rows so far are appended
abbrev pub invariant-loop-row : goal.invariant-loop-row
invariant-loop-row l =
    l.out ≡ l.initial.out ++ flat_map (row_text l.layout) (take l.row-index l.rows)
