use Rattle.std.proofs.Common.{true, false, subst, w32}
use Rattle.std.proofs.lemmas.Int.{to_z-of_z}
use Rattle.table_model.specs.RowChanges.{post_by}
use Rattle.table_model.proofs.PostedRows.{post_again}
use Rattle.tree_tables.specs.Walks.{RenewsRow}
use Rattle.tree_rows.proofs.Calls.{clean_before}
use Rattle.tree_tables.proofs.Renewing.{renews_kept, renews_none, renews_one}
use Rattle.tree_tables.proofs.tables.TreeTables.post_next.Goals as goal

-- no record is left
pub returns-then-not-branch-clause-renews : goal.returns-then-not-branch-clause-renews
returns-then-not-branch-clause-renews g c clean =
    renews_none (post_by c.args.through) (post_again c.args.through)
    (g.S.Store.view c.args.self.now.store)
    (g.S.Store.view c.first_past.new.store) c.args.self.now.key c.first_past.new.row
    (c.in_ok-first_past.ensures.same clean) c.args.self.now.key
    (rw c.if-not-branch.true at (c.in_ok-first_past.ensures.found clean))

-- the record is posted
pub returns-in_ok-change_row-clause-renews : goal.returns-in_ok-change_row-clause-renews
returns-in_ok-change_row-clause-renews g c clean =
    let before = clean_before g.S.Store c.change_row.ensures.quiet clean in
    renews_one (post_by c.args.through) (post_again c.args.through)
    (g.S.Store.view c.args.self.now.store)
    (g.S.Store.view c.first_past.new.store) c.args.self.now.key c.first_past.new.row
    (c.in_ok-first_past.ensures.same before) (g.S.Store.view c.change_row.new.store)
    c.column_key.new.key c.post_row.new.row
    (rw c.if-not-branch.false at (c.in_ok-first_past.ensures.found before))
    c.in_ok-column_key.ensures
    (subst (λ day. RenewsRow (post_by day) c.first_past.new.row c.post_row.new.row true)
    (to_z-of_z w32 c.args.through c.ranges.through)
    (rw c.if-branch.true at c.in_ok-post_row.ensures))
    (c.in_ok-change_row.ensures.done clean)

-- it is already as it is posted
pub returns-else-branch-clause-renews : goal.returns-else-branch-clause-renews
returns-else-branch-clause-renews g c clean =
    renews_kept (post_by c.args.through) (post_again c.args.through)
    (g.S.Store.view c.args.self.now.store)
    (g.S.Store.view c.first_past.new.store) c.args.self.now.key c.first_past.new.row
    (c.in_ok-first_past.ensures.same clean) c.column_key.new.key c.post_row.new.row
    (rw c.if-not-branch.false at (c.in_ok-first_past.ensures.found clean))
    c.in_ok-column_key.ensures
    (subst (λ day. RenewsRow (post_by day) c.first_past.new.row c.post_row.new.row false)
    (to_z-of_z w32 c.args.through c.ranges.through)
    (rw c.if-branch.false at c.in_ok-post_row.ensures))
