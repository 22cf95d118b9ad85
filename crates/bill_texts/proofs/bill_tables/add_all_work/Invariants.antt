use Rattle.std.proofs.Common.{◌≡◌, ◌++◌, take, flat_map}
use Rattle.bill_texts.specs.BillTables.{work_row}
use Rattle.bill_texts.proofs.bill_tables.add_all_work.Given as goal

-- the rows of the work so far are there
abbrev pub invariant-loop-row : goal.invariant-loop-row
invariant-loop-row l =
    l.table ≡ l.initial.table ++ flat_map (work_row l.period l.kind l.has_work l.shifts)
    (take l.row-index l.rows)
