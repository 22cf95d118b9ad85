use Rattle.std.proofs.Common.{take}
use Rattle.table_ledger.proofs.Words.{state, IsLastOf, Saw}
use Rattle.table_ledger.proofs.chosen.last_of.Given as goal

-- of the choices so far the last ones are remembered
abbrev pub invariant-loop-choice : goal.invariant-loop-choice
invariant-loop-choice g l = record {
  saw : Saw (state g.S.Store l.initial.tables.store) (state g.S.Store l.tables.store) (λ tables.
      IsLastOf (take l.choice-index l.choices) tables.records l.chosen);
}
