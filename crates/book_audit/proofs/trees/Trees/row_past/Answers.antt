use Rattle.std.proofs.Common.{IfOk, rules, subst}
use Rattle.sqlite_trees.specs.Tree.{from_key}
use Rattle.sqlite_trees.specs.View.{IsClean}
use Rattle.sqlite_value.specs.Keys.{plain}
use Rattle.tree_rows.specs.Rows.{IsFirst}
use Rattle.tree_tables.proofs.Renewing.{from_no_key}
use Rattle.book_audit.specs.Trees.{tree_number}
use Rattle.book_audit.proofs.trees.Trees.row_past.Goals as goal

pub returns-then-is_empty-clause-found : goal.returns-then-is_empty-clause-found
returns-then-is_empty-clause-found g c =
    let trees = (g.S.Store.view c.args.self.now.store).trees in
    let key = c.args.key.now in
    let found = subst (λ number. IfOk c.first_from.result (λ there.
    IsClean (g.S.Store.view c.first_from.new.store)
    → IsFirst (from_key plain key (trees number)) c.first_from.new.row there))
    c.number-number.ensures.value c.first_from.ensures.found in
    subst (λ rows. IfOk c.first_from.result (λ there.
    IsClean (g.S.Store.view c.first_from.new.store) → IsFirst rows c.first_from.new.row there))
    (from_no_key key (trees (tree_number c.args.tree)) (search rules))
    found
