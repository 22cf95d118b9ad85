use Rattle.std.proofs.Common.{◌≡◌, List, length}
use Rattle.std.specs.List.{AllByRecursion}
use Rattle.sqlite_trees.specs.View.{IsClean}
use Rattle.sqlite_value.specs.Order.{Row}
use Rattle.book_audit.specs.Entries.{IsEntry}
use Rattle.book_audit.specs.Looks.{IsLook}
use Rattle.book_audit.specs.Trees.{tree_number}
use Rattle.book_audit.specs.Walks.{HasWalked}
use Rattle.book_audit.proofs.entry_counts.count_rows.Given as goal

-- the rows so far are entries
abbrev pub invariant-entries : goal.invariant-entries
invariant-entries g l = record {
  tree : l.walk.tree ≡ l.tree;
  looks : IsLook g.S.Store l.fn.trees.store l.trees.store;
  read : IsClean (g.S.Store.view l.trees.store) → (done : List Row)
      × HasWalked l.tree l.walk.key ((g.S.Store.view l.fn.trees.store).trees (tree_number l.tree)) done
      × AllByRecursion (IsEntry l.tree) done × (l.count ≡ length done);
}
