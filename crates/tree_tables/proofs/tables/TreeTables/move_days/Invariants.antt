use Rattle.sqlite_trees.specs.View.{IsClean, IsQuiet}
use Rattle.tree_tables.specs.Days.{MovesSome}
use Rattle.tree_tables.proofs.tables.TreeTables.move_days.Given as goal

-- some rows went, and nothing else was done
abbrev pub invariant-rows : goal.invariant-rows
invariant-rows g l =
    let old = g.S.Store.view l.fn.self.store in
    let now = g.S.Store.view l.self.store in
    record {
      quiet : IsQuiet g.S.Store.view g.S.Store.faults g.S.Store.recovers g.S.Store.is_shielded
          l.fn.self.store l.self.store;
      some : IsClean now → MovesSome old now l.close.period l.close.through;
    }
