use Rattle.std.proofs.Common.{◌-◌}
use Rattle.table_ledger.proofs.Words.{state, Saw}
use Rattle.table_ledger.proofs.EntryTries.{PassedTo}
use Rattle.table_ledger.proofs.listed_entries.look_for_text.Given as goal

-- none of those that were passed begins on the day
abbrev pub invariant-rows : goal.invariant-rows
invariant-rows g l =
    Saw (state g.S.Store l.fn.tables.store) (state g.S.Store l.tables.store)
    (PassedTo l.fn.day l.fn.number l.fn.count l.passed)

-- those that are left
abbrev pub decreases-rows : goal.decreases-rows
decreases-rows g l = l.fn.count - l.passed
