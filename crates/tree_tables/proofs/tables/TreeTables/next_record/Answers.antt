use Rattle.tree_tables.proofs.Looking.{looks_alone}
use Rattle.tree_tables.proofs.Passes.{takes_next}
use Rattle.tree_tables.proofs.tables.TreeTables.next_record.Goals as goal

-- the next row is that of the first record that is still to come
pub returns-clause-looks : goal.returns-clause-looks
returns-clause-looks g c =
    let old = g.S.Store.view c.args.self.now.store in
    let new = g.S.Store.view c.next_row.new.store in
    looks_alone g.S.Store c.next_row.result c.next_row.ensures.quiet c.next_row.ensures.same
    c.next_row.ensures.kept c.next_row.ensures.next
    (λ there it clean tables holds. takes_next old new c.next_row.new.row there it)
