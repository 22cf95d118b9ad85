use Rattle.std.proofs.Common.{refl}
use Rattle.table_model.specs.RowChanges.{by_second_rule}
use Rattle.tree_rows.proofs.Calls.{clean_before}
use Rattle.tree_tables.proofs.Renewing.{renews_none, renews_one}
use Rattle.tree_tables.proofs.tables.TreeTables.rename_next.Goals as goal

-- no record is left
pub returns-then-not-branch-clause-renews : goal.returns-then-not-branch-clause-renews
returns-then-not-branch-clause-renews g c clean =
    renews_none by_second_rule (λ row. refl) (g.S.Store.view c.args.self.now.store)
    (g.S.Store.view c.first_past.new.store) c.args.self.now.key c.first_past.new.row
    (c.in_ok-first_past.ensures.same clean) c.args.self.now.key
    (rw c.if-not-branch.true at (c.in_ok-first_past.ensures.found clean))

-- the record has its identity
pub returns-clause-renews : goal.returns-clause-renews
returns-clause-renews g c clean =
    let before = clean_before g.S.Store c.change_row.ensures.quiet clean in
    renews_one by_second_rule (λ row. refl) (g.S.Store.view c.args.self.now.store)
    (g.S.Store.view c.first_past.new.store) c.args.self.now.key c.first_past.new.row
    (c.in_ok-first_past.ensures.same before) (g.S.Store.view c.change_row.new.store)
    c.column_key.new.key c.renamed_row.new.row
    (rw c.if-not-branch.false at (c.in_ok-first_past.ensures.found before))
    c.in_ok-column_key.ensures c.in_ok-renamed_row.ensures (c.in_ok-change_row.ensures.done clean)
