use Rattle.std.proofs.Common.{◌≡◌, ◌∷◌, [], ap, pos}
use Rattle.sqlite_value.specs.Order.{column}
use Rattle.sqlite_value.specs.Value.{owned}
use Rattle.sqlite_value.specs.declared.value.Value.TheVariants.{Int}
use Rattle.table_model.specs.RowChanges.{mark_at}
use Rattle.tree_tables.specs.Columns.{flag}
use Rattle.tree_rows.proofs.Calls.{clean_before, quiet_both}
use Rattle.tree_tables.proofs.Looking.{does_after, does_nothing}
use Rattle.tree_tables.proofs.Looking.{rewrites_after_look}
use Rattle.tree_tables.proofs.Records.{record_missing, record_there, record_marked}
use Rattle.tree_tables.proofs.tables.TreeTables.set_mark.Goals as goal

-- no row has the name
pub returns-then-not-branch : goal.returns-then-not-branch
returns-then-not-branch g c = record {
  does = does_nothing g.S.Store c.find_row.ensures.quiet c.in_ok-find_row.ensures.same
      (λ clean tables holds.
      ap (λ found. record tables {
        records = mark_at c.args.mark c.args.name.now found tables.records;
      })
      (record_missing tables holds.records c.in_ok-bytes_key.ensures.made
      (c.in_ok-find_row.ensures.found clean) c.if-not-branch.true));
}

-- the row has another mark, and is found by it
pub returns : goal.returns
returns g c = record {
  does =
      let ghosts = g.S.Store in
      let old = ghosts.view c.args.self.now.store in
      let look = c.find_row.ensures.quiet in
      let step = c.change_row.ensures.quiet in
      let last = c.change_mark.ensures.quiet in
      let name = column c.find_row.new.row 0 in
      let identity = column c.find_row.new.row 1 in
      let from_is : owned c.get.result ∷ owned c.get-identity.result ∷ owned c.get-name.result ∷ []
      ≡ column c.find_row.new.row 9 ∷ identity ∷ name ∷ [] =
      λ i. c.get.ensures i ∷ c.get-identity.ensures i ∷ c.get-name.ensures i ∷ [] in
      let to_is : owned c.mark_value.result ∷ owned c.get-identity.result
      ∷ owned c.get-name.result ∷ [] ≡ Int (pos (flag c.args.mark)) ∷ identity ∷ name ∷ [] =
      λ i. c.mark_value.ensures i ∷ c.get-identity.ensures i ∷ c.get-name.ensures i ∷ [] in
      does_after ghosts c.change_mark.result (quiet_both ghosts look step)
      (λ clean. (rewrites_after_look {old = old}
      (c.in_ok-find_row.ensures.same (clean_before ghosts step clean))
      (c.in_ok-change_row.ensures.done clean)).only)
      last c.change_mark.ensures.kept c.change_mark.ensures.done
      (λ clean rewritten tables holds when.
      let after = clean_before ghosts last clean in
      let before = clean_before ghosts step after in
      let there = record_there tables holds.records c.in_ok-bytes_key.ensures.made
      (c.in_ok-find_row.ensures.found before) c.if-not-branch.false in
      record_marked old tables c.args.name.now c.args.mark there.0
      (c.in_ok-find_row.ensures.same before) (c.in_ok-change_row.ensures.done after) rewritten
      there.2 c.in_ok-marked_row.ensures from_is to_is there.1 holds);
}
