use Rattle.std.proofs.Common.{◌<◌, ◌-◌, length}
use Rattle.table_ledger.proofs.RisingNames.{RiseBelow}
use Rattle.table_ledger.proofs.adjustments.are_apart.Given as goal

-- what is left
abbrev pub decreases-loop-at : goal.decreases-loop-at
decreases-loop-at l = length l.lines - l.at

-- the names so far rise
abbrev pub invariant-loop-at : goal.invariant-loop-at
invariant-loop-at l = record {
  past : 0 < l.at;
  rise : RiseBelow l.lines l.at;
}
