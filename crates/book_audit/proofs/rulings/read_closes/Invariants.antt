use Rattle.std.proofs.Common.{◌≡◌, All, map, int_cmp}
use Rattle.std.specs.List.Sorted.{IsStrictlySortedBy}
use Rattle.sqlite_trees.specs.View.{IsClean}
use Rattle.book_model.specs.Words.{IsDay}
use Rattle.table_model.specs.TablesOf.{close_entries}
use Rattle.tree_tables.specs.Columns.{closed_columns}
use Rattle.book_audit.specs.Looks.{IsLook}
use Rattle.book_audit.specs.Walks.{HasWalked}
use Rattle.book_audit.specs.declared.finding.Tree.TheVariants.{Closes}
use Rattle.book_audit.proofs.rulings.read_closes.Given as goal

-- the rows so far are those of closes through the days so far
abbrev pub invariant-closes : goal.invariant-closes
invariant-closes g l = record {
  tree : l.walk.tree ≡ Closes;
  looks : IsLook g.S.Store l.fn.trees.store l.trees.store;
  walked : IsClean (g.S.Store.view l.trees.store)
      → HasWalked Closes l.walk.key ((g.S.Store.view l.fn.trees.store).trees 2)
      (map closed_columns (close_entries 1 l.days.items));
  days : All IsDay l.days.items;
  in_order : IsStrictlySortedBy int_cmp l.days.items;
}
