use Rattle.std.proofs.Common.{◌≡◌, take}
use Rattle.table_ledger.proofs.Words.{state, Saw, lines_stored}
use Rattle.table_ledger.proofs.adjustments.read_lines.Given as goal

-- the lines so far are read
abbrev pub invariant-loop-stored : goal.invariant-loop-stored
invariant-loop-stored g l = record {
  saw : Saw (state g.S.Store l.initial.tables.store) (state g.S.Store l.tables.store) (λ tables.
      l.lines.items ≡ lines_stored tables.records (take l.stored-index l.found));
}
