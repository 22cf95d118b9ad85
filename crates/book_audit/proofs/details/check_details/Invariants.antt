use Rattle.std.proofs.Common.{◌≡◌, List, map}
use Rattle.std.specs.List.{AllByRecursion}
use Rattle.sqlite_trees.specs.View.{IsClean}
use Rattle.book_model.specs.declared.detail.Detail.{Detail}
use Rattle.tree_tables.specs.Columns.{detail_columns}
use Rattle.book_audit.specs.Details.{ShowsCounted}
use Rattle.book_audit.specs.Looks.{IsLook}
use Rattle.book_audit.specs.Walks.{HasWalked}
use Rattle.book_audit.specs.declared.finding.Tree.TheVariants.{Details}
use Rattle.book_audit.proofs.details.check_details.Given as goal

-- the rows so far show records that are counted
abbrev pub invariant-rows : goal.invariant-rows
invariant-rows g l = record {
  tree : l.walk.tree ≡ Details;
  looks : IsLook g.S.Store l.fn.trees.store l.trees.store;
  read : IsClean (g.S.Store.view l.trees.store) → (shown : List Detail)
      × HasWalked Details l.walk.key ((g.S.Store.view l.fn.trees.store).trees 10)
      (map (λ one. detail_columns (one, tt)) shown)
      × AllByRecursion (ShowsCounted (g.S.Store.view l.fn.trees.store).trees l.rulings.closes.items) shown;
}
