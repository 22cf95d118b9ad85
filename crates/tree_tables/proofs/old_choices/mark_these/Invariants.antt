use Rattle.std.proofs.Common.{Ok, take}
use Rattle.sqlite_trees.specs.View.{KeepsSchema}
use Rattle.tree_tables.specs.OldChoices.{Marks, mark_each}
use Rattle.tree_tables.specs.States.{state}
use Rattle.tree_tables.proofs.old_choices.mark_these.Given as goal

-- those so far have their mark
abbrev pub invariant-loop-one : goal.invariant-loop-one
invariant-loop-one g l = record {
  marks : Marks {T = Unit {0}} (Ok tt) (state g.S.Store l.fn.store) (state g.S.Store l.store)
      (mark_each (take l.one-index l.all));
  schema : KeepsSchema (g.S.Store.view l.fn.store) (g.S.Store.view l.store);
}
