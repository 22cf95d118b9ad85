use Rattle.std.proofs.Common.{◌∷◌, [], ◌∙◌}
use Rattle.tree_tables.proofs.Keying.{keys_kept, keys_one}
use Rattle.tree_rows.proofs.Calls.{clean_before, unchanged_both}
use Rattle.tree_tables.proofs.Looking.{found_before}
use Rattle.tree_tables.proofs.tables.TreeTables.key_next.Goals as goal

-- its record is found by the identity that its row says
pub returns-then-branch-clause-keys : goal.returns-then-branch-clause-keys
returns-then-branch-clause-keys g c clean =
    let old = g.S.Store.view c.args.self.now.store in
    let before = clean_before g.S.Store c.find_row.ensures.quiet clean in
    let first = c.in_ok-first_past.ensures.same before in
    keys_kept old (g.S.Store.view c.find_row.new.store) c.args.last.now c.first_past.new.row
    (unchanged_both old first (c.in_ok-find_row.ensures.same clean)) c.make_row.new.row
    (rw c.if-not-branch.false at (c.in_ok-first_past.ensures.found before))
    (c.in_ok-make_row.ensures.made ∙ (λ i. c.get.ensures i ∷ c.get-2.ensures i ∷ []))
    c.in_ok-column_key.ensures
    (found_before old 3 first (c.in_ok-find_row.ensures.found clean))
    c.if-not-branch-2.false
    (c.in_ok-is_keyed.ensures c.if-branch.true)

-- or it is from now on
pub returns-clause-keys : goal.returns-clause-keys
returns-clause-keys g c clean =
    let old = g.S.Store.view c.args.self.now.store in
    let after = clean_before g.S.Store c.key_record.ensures.quiet clean in
    let before = clean_before g.S.Store c.find_row.ensures.quiet after in
    let first = c.in_ok-first_past.ensures.same before in
    keys_one old (g.S.Store.view c.find_row.new.store) c.args.last.now c.first_past.new.row
    (unchanged_both old first (c.in_ok-find_row.ensures.same after)) c.make_row.new.row
    (rw c.if-not-branch.false at (c.in_ok-first_past.ensures.found before))
    (c.in_ok-make_row.ensures.made ∙ (λ i. c.get.ensures i ∷ c.get-2.ensures i ∷ []))
    c.in_ok-column_key.ensures
    (found_before old 3 first (c.in_ok-find_row.ensures.found after))
    c.if-not-branch-2.false (g.S.Store.view c.key_record.new.self.store)
    (c.in_ok-key_record.ensures.keyed clean)
