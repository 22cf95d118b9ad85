use Rattle.sqlite_trees.specs.View.{IsClean, IsQuiet, OnlyWrites}
use Rattle.table_model.specs.Steps.{rename_rows}
use Rattle.table_model.specs.Tables.{Tables}
use Rattle.tree_tables.specs.Walks.{HoldsFoundBy, IsKeying}
use Rattle.tree_tables.proofs.tables.TreeTables.key_records.Given as goal

-- the records up to the key are found by what their rows say, and nothing else is written
abbrev pub invariant-entries : goal.invariant-entries
invariant-entries g l =
    let old = g.S.Store.view l.fn.self.store in
    let now = g.S.Store.view l.self.store in
    record {
      only : IsClean now → OnlyWrites old now;
      keying : IsClean now → (tables : Tables)
          → HoldsFoundBy old.trees (rename_rows tables) tables.records
          → IsKeying (rename_rows tables) now.trees l.last;
      quiet : IsQuiet g.S.Store.view g.S.Store.faults g.S.Store.recovers g.S.Store.is_shielded
          l.fn.self.store l.self.store;
    }
