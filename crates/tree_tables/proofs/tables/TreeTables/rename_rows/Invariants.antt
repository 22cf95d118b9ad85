use Rattle.sqlite_trees.specs.View.{IsClean, IsQuiet, OnlyWrites}
use Rattle.table_model.specs.RowChanges.{by_second_rule}
use Rattle.table_model.specs.Tables.{Tables}
use Rattle.tree_tables.specs.Holds.{Holds}
use Rattle.tree_tables.specs.Walks.{IsRenewing}
use Rattle.tree_tables.proofs.tables.TreeTables.rename_rows.Given as goal

-- the rows up to the key have their identities, and nothing else is written
abbrev pub invariant-rows : goal.invariant-rows
invariant-rows g l =
    let old = g.S.Store.view l.fn.self.store in
    let now = g.S.Store.view l.self.store in
    record {
      only : IsClean now → OnlyWrites old now;
      renewing : IsClean now → (tables : Tables) → Holds old.trees tables
          → IsRenewing by_second_rule tables now.trees l.self.key;
      quiet : IsQuiet g.S.Store.view g.S.Store.faults g.S.Store.recovers g.S.Store.is_shielded
          l.fn.self.store l.self.store;
    }
