use Rattle.std.proofs.Common.{◌≡◌, List, map}
use Rattle.sqlite_trees.specs.View.{IsClean}
use Rattle.book_model.proofs.Std.{AllByRecursion}
use Rattle.book_model.specs.Words.{AcceptedTerms}
use Rattle.table_model.specs.Words.{IsTexted, tariff_entries}
use Rattle.tree_tables.specs.Columns.{tariff_columns}
use Rattle.book_audit.specs.Looks.{IsLook}
use Rattle.book_audit.specs.Walks.{HasWalked}
use Rattle.book_audit.specs.declared.finding.Tree.TheVariants.{Tariffs}
use Rattle.book_audit.proofs.rulings.read_tariffs.Given as goal

-- the rows so far are those of tariffs
abbrev pub invariant-tariffs : goal.invariant-tariffs
invariant-tariffs g l = record {
  tree : l.walk.tree ≡ Tariffs;
  looks : IsLook g.S.Store l.fn.trees.store l.trees.store;
  read : IsClean (g.S.Store.view l.trees.store) → (accepted : List AcceptedTerms)
      × HasWalked Tariffs l.walk.key ((g.S.Store.view l.fn.trees.store).trees 1)
      (map tariff_columns (tariff_entries accepted))
      × (map (λ tariff. tariff.terms) accepted ≡ l.tariffs.items)
      × AllByRecursion IsTexted accepted;
}
