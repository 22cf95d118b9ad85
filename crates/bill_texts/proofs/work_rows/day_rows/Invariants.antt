use Rattle.std.proofs.Common.{◌≡◌, take}
use Rattle.bill_texts.specs.WorkRows.{day_rows}
use Rattle.bill_texts.proofs.work_rows.day_rows.Given as goal

-- the rows so far are there
abbrev pub invariant-loop-row : goal.invariant-loop-row
invariant-loop-row l =
    l.made.items ≡ day_rows l.has_work l.shifts (take l.row-index l.rows)
