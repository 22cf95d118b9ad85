use Rattle.std.proofs.Common.{arith}
use Rattle.sqlite_trees.specs.View.{IsClean}
use Rattle.tree_rows.proofs.Runs.{last_sought}
use Rattle.tree_rows.proofs.lookup.last_row.Goals as goal

pub returns-in-Ok-clause-found : goal.returns-in-Ok-clause-found
returns-in-Ok-clause-found g c clean =
    let old = g.S.Store.view c.args.store.now in
    let mid = g.S.Store.view c.seek.new.self in
    let mid_clean : IsClean mid = omega (arith, clean, c.next.ensures.quiet.clean) in
    let old_clean : IsClean old = omega (arith, mid_clean, c.seek.ensures.quiet.clean) in
    last_sought old mid (g.S.Store.view c.next.new.self) _ c.args.tree c.clear.new.self
    c.next.new.row c.in-Ok.there c.clear.ensures (c.requires old_clean)
    (c.in_ok-seek.ensures.ok mid_clean) (c.in-Ok.ensures.ok clean)
