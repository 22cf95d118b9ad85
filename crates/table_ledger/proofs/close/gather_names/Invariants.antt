use Rattle.std.proofs.Common.{◌-◌, length}
use Rattle.table_ledger.proofs.Words.{state, Saw}
use Rattle.table_ledger.specs.declared.close.TheConstants.{MOST_AT_ONCE}
use Rattle.table_ledger.proofs.PostedDetails.{GatheredSo}
use Rattle.table_ledger.proofs.close.gather_names.Given as goal

-- the names of the details up to the last one are gathered
abbrev pub invariant-details : goal.invariant-details
invariant-details g l =
    Saw (state g.S.Store l.fn.tables.store) (state g.S.Store l.tables.store)
    (GatheredSo l.fn.last l.fn.close.through l.fn.passed l.passed l.names.items)

-- the names that there is room for
abbrev pub decreases-details : goal.decreases-details
decreases-details g l = MOST_AT_ONCE - length l.names.items
