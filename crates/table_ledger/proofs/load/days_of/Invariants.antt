use Rattle.std.proofs.Common.{take}
use Rattle.std.specs.List.{AllZip}
use Rattle.table_ledger.specs.Loaded.{IsCloseDay}
use Rattle.table_ledger.proofs.load.days_of.Given as goal

-- the days so far are those of the rows
abbrev pub invariant-loop-row : goal.invariant-loop-row
invariant-loop-row l = AllZip IsCloseDay (take l.row-index l.rows) l.days.items
