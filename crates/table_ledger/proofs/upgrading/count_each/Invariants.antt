use Rattle.std.proofs.Common.{Ok, take}
use Rattle.table_ledger.proofs.Words.{KeepsSchema, state, Always, Does, names_of}
use Rattle.table_ledger.specs.OldForms.{count_each}
use Rattle.table_ledger.proofs.upgrading.count_each.Given as goal

-- those so far are counted
abbrev pub invariant-loop-one : goal.invariant-loop-one
invariant-loop-one g l = record {
  does : Does {T = Unit {0}} (Ok tt) (state g.S.Store l.fn.store) (state g.S.Store l.store) Always
      (count_each (names_of (take l.one-index l.all)));
  schema : KeepsSchema (g.S.Store.view l.fn.store) (g.S.Store.view l.store);
}
