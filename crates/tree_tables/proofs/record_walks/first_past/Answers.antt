use Rattle.std.proofs.Common.{IfOk, rules, subst}
use Rattle.sqlite_trees.specs.View.{IsClean}
use Rattle.tree_rows.specs.Rows.{IsFirst}
use Rattle.tree_tables.proofs.Renewing.{from_no_key}
use Rattle.tree_tables.proofs.record_walks.first_past.Goals as goal

pub returns-then-is_empty-clause-found : goal.returns-then-is_empty-clause-found
returns-then-is_empty-clause-found g c =
    subst (λ rows. IfOk c.first_from.result (λ there.
    IsClean (g.S.Store.view c.first_from.new.store) → IsFirst rows c.first_from.new.row there))
    (from_no_key c.args.key.now ((g.S.Store.view c.args.store.now).trees c.args.tree)
    (search rules))
    c.first_from.ensures.found
