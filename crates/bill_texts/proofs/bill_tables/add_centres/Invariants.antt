use Rattle.std.proofs.Common.{◌≡◌, ◌++◌, take, flat_map}
use Rattle.bill_texts.specs.BillTables.{centre_row}
use Rattle.bill_texts.proofs.bill_tables.add_centres.Given as goal

-- the rows of the centres so far are there
abbrev pub invariant-loop-own : goal.invariant-loop-own
invariant-loop-own l =
    l.table ≡ l.initial.table ++ flat_map (centre_row l.period l.decimals) (take l.own-index l.each)
