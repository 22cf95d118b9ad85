use Rattle.std.proofs.Common.{◌≡◌, ◌≤◌, List, length}
use Rattle.sqlite_trees.specs.View.{IsClean}
use Rattle.book_model.proofs.Std.{AllByRecursion}
use Rattle.book_model.specs.Words.{Credit, most_credits}
use Rattle.consistent_tables.specs.Consistent.{IsOwnCredit}
use Rattle.book_audit.specs.KeptRulings.{credit_rows}
use Rattle.book_audit.specs.Looks.{IsLook}
use Rattle.book_audit.specs.Walks.{HasWalked}
use Rattle.book_audit.specs.declared.finding.Tree.TheVariants.{Credits}
use Rattle.book_audit.proofs.kept_credits.read_credits.Given as goal

-- the rows so far are those of as many
abbrev pub invariant-credits : goal.invariant-credits
invariant-credits g l = record {
  tree : l.walk.tree ≡ Credits;
  looks : IsLook g.S.Store l.fn.trees.store l.trees.store;
  few : l.count ≤ most_credits;
  read : IsClean (g.S.Store.view l.trees.store) → (all : List Credit)
      × HasWalked Credits l.walk.key ((g.S.Store.view l.fn.trees.store).trees 11) (credit_rows all)
      × AllByRecursion (IsOwnCredit l.open_period) all × (l.count ≡ length all);
}
