use Rattle.std.proofs.Common.{◌≡◌, ℕ, Bool, List, length, map}
use Rattle.std.specs.List.{AllByRecursion}
use Rattle.sqlite_trees.specs.View.{IsClean}
use Rattle.tree_tables.specs.Columns.{line_columns}
use Rattle.book_audit.specs.Lines.{IsLateLine}
use Rattle.book_audit.specs.Looks.{IsLook}
use Rattle.book_audit.specs.Walks.{HasWalked}
use Rattle.book_audit.specs.declared.finding.Tree.TheVariants.{Lines}
use Rattle.book_audit.proofs.lines.check_lines.Given as goal

-- the rows so far are those of lines
abbrev pub invariant-lines : goal.invariant-lines
invariant-lines g l = record {
  tree : l.walk.tree ≡ Lines;
  looks : IsLook g.S.Store l.fn.trees.store l.trees.store;
  read : IsClean (g.S.Store.view l.trees.store) → (lines : List ((ℕ × List ℕ) × Bool))
      × HasWalked Lines l.walk.key ((g.S.Store.view l.fn.trees.store).trees 5) (map line_columns lines)
      × (l.count ≡ length lines)
      × AllByRecursion (IsLateLine ((g.S.Store.view l.fn.trees.store).trees 3) l.rulings.closes.items) lines;
}
