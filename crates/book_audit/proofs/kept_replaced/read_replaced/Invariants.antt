use Rattle.std.proofs.Common.{◌≡◌, ◌≤◌, List, length}
use Rattle.sqlite_trees.specs.View.{IsClean}
use Rattle.book_model.proofs.Std.{AllByRecursion}
use Rattle.book_model.specs.Words.{Replaced, most_replaced}
use Rattle.consistent_tables.specs.Consistent.{IsOwnReplaced}
use Rattle.book_audit.specs.KeptRulings.{replaced_rows}
use Rattle.book_audit.specs.Looks.{IsLook}
use Rattle.book_audit.specs.Walks.{HasWalked}
use Rattle.book_audit.specs.declared.finding.Tree.TheVariants as kept
use Rattle.book_audit.proofs.kept_replaced.read_replaced.Given as goal

-- the rows so far are those of as many
abbrev pub invariant-tariffs : goal.invariant-tariffs
invariant-tariffs g l = record {
  tree : l.walk.tree ≡ kept.Replaced;
  looks : IsLook g.S.Store l.fn.trees.store l.trees.store;
  few : l.count ≤ most_replaced;
  read : IsClean (g.S.Store.view l.trees.store) → (all : List Replaced)
      × HasWalked kept.Replaced l.walk.key ((g.S.Store.view l.fn.trees.store).trees 12) (replaced_rows all)
      × AllByRecursion (IsOwnReplaced l.open_period) all × (l.count ≡ length all);
}
