use Rattle.tree_tables.proofs.Looking.{looks_alone}
use Rattle.tree_tables.proofs.Passes.{takes_next}
use Rattle.tree_tables.proofs.detail_fill.next_record_in.Goals as goal

-- the next row is that of the first record that is still to come
pub returns-clause-looks : goal.returns-clause-looks
returns-clause-looks g c =
    looks_alone g.S.Store c.next_row.result c.next_row.ensures.quiet
    c.next_row.ensures.same c.next_row.ensures.kept c.next_row.ensures.next
    (λ there it clean tables holds. takes_next (g.S.Store.view c.args.store.now)
    (g.S.Store.view c.next_row.new.store) c.next_row.new.row there it)
