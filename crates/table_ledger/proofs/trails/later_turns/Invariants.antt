use Rattle.std.proofs.Common.{◌≡◌, ◌≤◌, ◌-◌, suc}
use Rattle.table_model.specs.Words.{line_turns}
use Rattle.table_ledger.proofs.Words.{state, Saw}
use Rattle.table_ledger.proofs.trails.later_turns.Given as goal

-- the turns are those of the periods so far
abbrev pub invariant-loop-period : goal.invariant-loop-period
invariant-loop-period g l = record {
  saw : Saw (state g.S.Store l.fn.tables.store) (state g.S.Store l.tables.store) (λ tables.
      l.turns.items ≡ line_turns tables.lines l.name (suc l.after) (l.period - l.after));
  since : l.after ≤ l.period;
  until : l.period ≤ l.last;
}

abbrev pub decreases-loop-period : goal.decreases-loop-period
decreases-loop-period g l = l.last - l.period
