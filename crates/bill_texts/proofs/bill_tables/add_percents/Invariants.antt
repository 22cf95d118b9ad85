use Rattle.std.proofs.Common.{◌≡◌, ◌++◌, take, flat_map}
use Rattle.bill_texts.specs.BillTables.{percent_rows}
use Rattle.bill_texts.proofs.bill_tables.add_percents.Given as goal

-- the rows of the shifts so far are there
abbrev pub invariant-loop-shift : goal.invariant-loop-shift
invariant-loop-shift l =
    l.table ≡ l.initial.table ++ flat_map (percent_rows l.period l.centre l.day)
    (take l.shift-index l.shifts)
