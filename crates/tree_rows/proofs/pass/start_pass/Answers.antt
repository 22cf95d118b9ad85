use Rattle.std.proofs.Common.{◌≡◌, arith}
use Rattle.std.proofs.lemmas.Result.{IfOk-weaker}
use Rattle.sqlite_trees.specs.Tree.{order_of, sought}
use Rattle.sqlite_trees.specs.View.{IsClean, with_cursor}
use Rattle.sqlite_trees.specs.declared.store.Direction.TheVariants.{Forward}
use Rattle.tree_rows.specs.declared.pass.TheConstants.{PASS}
use Rattle.tree_rows.proofs.Runs.{all_sought}
use Rattle.tree_rows.proofs.pass.start_pass.Goals as goal

-- the cursor is before the first row
pub returns-clause-left : goal.returns-clause-left
returns-clause-left g c =
    let old = g.S.Store.view c.args.store.now in
    let new = g.S.Store.view c.seek.new.self in
    let tree = c.args.tree in
    let key = c.clear.new.self in
    IfOk-weaker c.seek.result (λ started. IsClean new
    → new ≡ with_cursor old PASS (sought (order_of (old.shape tree)) Forward key (old.trees tree)))
    _ (λ started placed clean.
    let old_clean : IsClean old = omega (arith, clean, c.seek.ensures.quiet.clean) in
    all_sought old new PASS tree key c.clear.ensures (c.requires old_clean) (placed clean))
    c.seek.ensures.ok
