use Rattle.std.proofs.Common.{◌≡◌, ◌++◌, take, flat_map}
use Rattle.bill_texts.specs.BillTables.{billed_row}
use Rattle.bill_texts.proofs.bill_tables.add_lines.Given as goal

-- the rows of the lines so far are there
abbrev pub invariant-loop-one : goal.invariant-loop-one
invariant-loop-one l =
    l.table ≡ l.initial.table ++ flat_map (billed_row l.period) (take l.one-index l.billed)
