use Rattle.std.proofs.Common.{◌≡◌, ◌++◌, take, flat_map}
use Rattle.bill_texts.specs.BillTables.{tariff_rows}
use Rattle.bill_texts.proofs.bill_tables.add_tariffs.Given as goal

-- the rows of the tariffs so far are there
abbrev pub invariant-loop-tariff : goal.invariant-loop-tariff
invariant-loop-tariff l =
    l.table ≡ l.initial.table ++ flat_map (tariff_rows l.period l.centre l.shifts)
    (take l.tariff-index l.tariffs)
