use Rattle.std.proofs.Common.{◌≡◌, List}
use Rattle.sqlite_trees.specs.View.{IsClean}
use Rattle.book_audit.specs.ChoiceRows.{AreMade, Made, made_rows}
use Rattle.book_audit.specs.Looks.{IsLook}
use Rattle.book_audit.specs.Walks.{HasWalked}
use Rattle.book_audit.specs.declared.finding.Tree.TheVariants.{Choices}
use Rattle.book_audit.proofs.choices.read_choices.Given as goal

-- the rows so far are those of choices
abbrev pub invariant-choices : goal.invariant-choices
invariant-choices g l = record {
  tree : l.walk.tree ≡ Choices;
  looks : IsLook g.S.Store l.fn.trees.store l.trees.store;
  read : IsClean (g.S.Store.view l.trees.store) → (made : List Made)
      × HasWalked Choices l.walk.key ((g.S.Store.view l.fn.trees.store).trees 8) (made_rows made)
      × AreMade (g.S.Store.view l.fn.trees.store).trees l.rule l.open_period l.chosen made
      × (l.chosen.count ≡ l.count);
}
