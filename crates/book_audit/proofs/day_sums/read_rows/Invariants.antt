use Rattle.std.proofs.Common.{◌≡◌, map, take}
use Rattle.sqlite_trees.specs.View.{IsClean}
use Rattle.consistent_tables.specs.DueRows.{due_entry}
use Rattle.tree_tables.specs.Columns.{day_columns}
use Rattle.book_audit.specs.Looks.{IsLook}
use Rattle.book_audit.specs.Walks.{HasWalked}
use Rattle.book_audit.specs.declared.finding.Tree.TheVariants.{Days}
use Rattle.book_audit.proofs.day_sums.read_rows.Given as goal

-- the rows so far are those that are due
abbrev pub invariant-rows : goal.invariant-rows
invariant-rows g l = record {
  tree : l.walk.tree ≡ Days;
  looks : IsLook g.S.Store l.fn.trees.store l.trees.store;
  walked : IsClean (g.S.Store.view l.trees.store)
      → HasWalked Days l.walk.key ((g.S.Store.view l.fn.trees.store).trees 4)
      (map day_columns (map (due_entry l.rulings.closes.items) (take l.next-index l.due)));
}
