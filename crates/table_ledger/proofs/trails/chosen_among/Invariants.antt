use Rattle.std.proofs.Common.{◌≡◌, map, take}
use Rattle.table_ledger.proofs.Words.{state, choice_entry, Saw}
use Rattle.table_ledger.specs.TrailReads.{chosen_of}
use Rattle.table_ledger.proofs.trails.chosen_among.Given as goal

-- the choices of the records so far
abbrev pub invariant-loop-stored : goal.invariant-loop-stored
invariant-loop-stored g l = record {
  saw : Saw (state g.S.Store l.initial.tables.store) (state g.S.Store l.tables.store) (λ tables.
      map choice_entry l.all.items ≡ chosen_of (take l.stored-index l.rows) tables);
}
