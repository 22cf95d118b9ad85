use Rattle.std.proofs.Common.{true, false, ap, subst, w32}
use Rattle.std.proofs.lemmas.Int.{to_z-of_z}
use Rattle.table_model.specs.RowChanges.{post_at, post_by}
use Rattle.tree_rows.proofs.Calls.{clean_before}
use Rattle.tree_tables.proofs.Looking.{does_after, does_nothing, only_looks}
use Rattle.tree_tables.proofs.Posting.{nothing_posted, record_posted}
use Rattle.tree_tables.proofs.Records.{record_missing, record_there}
use Rattle.tree_tables.specs.Walks.{RenewsRow}
use Rattle.tree_tables.proofs.tables.TreeTables.post_record.Goals as goal

-- no row has the name
pub returns-then-not-branch : goal.returns-then-not-branch
returns-then-not-branch g c = record {
  does = does_nothing g.S.Store c.find_row.ensures.quiet c.in_ok-find_row.ensures.same
      (λ clean tables holds.
      ap (λ found. record tables {
        records = post_at c.args.through c.args.name.now found tables.records;
      })
      (record_missing tables holds.records c.in_ok-bytes_key.ensures.made
      (c.in_ok-find_row.ensures.found clean) c.if-not-branch.true));
}

-- the row is posted already
pub returns-then-not-due : goal.returns-then-not-due
returns-then-not-due g c = record {
  does = does_nothing g.S.Store c.find_row.ensures.quiet c.in_ok-find_row.ensures.same
      (λ clean tables holds.
      let name = c.args.name.now in
      let through = c.args.through in
      let there = record_there tables holds.records c.in_ok-bytes_key.ensures.made
      (c.in_ok-find_row.ensures.found clean) c.if-not-branch.false in
      nothing_posted tables name through there.0 there.1
      (subst (λ day. RenewsRow (post_by day) c.find_row.new.row c.post_row.new.row false)
      (to_z-of_z w32 through c.ranges.through)
      (rw c.if-not-due.true at c.in_ok-due.ensures) tables.came (name, there.0) there.2));
}

-- or is posted now
pub returns : goal.returns
returns g c = record {
  does =
      let ghosts = g.S.Store in
      let old = ghosts.view c.args.self.now.store in
      let last = c.change_row.ensures.quiet in
      does_after ghosts c.change_row.result c.find_row.ensures.quiet
      (λ clean. only_looks old (c.in_ok-find_row.ensures.same clean))
      last c.change_row.ensures.kept c.change_row.ensures.done
      (λ clean written tables holds when.
      let name = c.args.name.now in
      let through = c.args.through in
      let before = clean_before ghosts last clean in
      let there = record_there tables holds.records c.in_ok-bytes_key.ensures.made
      (c.in_ok-find_row.ensures.found before) c.if-not-branch.false in
      record_posted tables name through there.0 there.1 old (c.in_ok-find_row.ensures.same before)
      written there.2
      (subst (λ day. RenewsRow (post_by day) c.find_row.new.row c.post_row.new.row true)
      (to_z-of_z w32 through c.ranges.through)
      (rw c.if-not-due.false at c.in_ok-due.ensures) tables.came (name, there.0) there.2)
      holds);
}
