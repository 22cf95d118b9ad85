use Rattle.std.proofs.Common.{◌≡◌, ◌∷◌, ◌++◌, [], ◌∙◌, ap}
use Rattle.sqlite_value.specs.declared.value.Value.TheVariants.{Blob}
use Rattle.tree_rows.proofs.Calls.{clean_before, quiet_both}
use Rattle.tree_tables.proofs.Looking.{does_after, only_both}
use Rattle.tree_tables.proofs.Records.{record_added}
use Rattle.tree_tables.specs.Columns.{came_columns, mark_columns}
use Rattle.tree_tables.specs.Holds.{mark_key}
use Rattle.tree_tables.specs.Stored.{new_entry}
use Rattle.tree_tables.proofs.tables.TreeTables.insert_record.Goals as goal

-- the three rows are there
pub returns : goal.returns
returns g c = record {
  does =
      let ghosts = g.S.Store in
      let second = c.add_row-2.ensures.quiet in
      does_after ghosts c.add_row-3.result (quiet_both ghosts c.add_row.ensures.quiet second)
      (λ clean. only_both (ghosts.view c.args.self.now.store)
      (c.in_ok-add_row.ensures.done (clean_before ghosts second clean)).only
      (c.in_ok-add_row-2.ensures.done clean).only)
      c.add_row-3.ensures.quiet c.add_row-3.ensures.kept c.add_row-3.ensures.done
      (λ clean rewritten tables holds new.
      let before = clean_before ghosts c.add_row-3.ensures.quiet clean in
      let entry = new_entry c.args.kept.now in
      let mark_is : c.make_row-2.new.row ≡ mark_columns (mark_key entry, tt) =
      c.in_ok-make_row-2.ensures.made
      ∙ ap (λ value. value ∷ Blob entry.1.identity ∷ Blob entry.0 ∷ []) c.mark_value.ensures in
      record_added entry.0 entry.1 c.args.came
      (c.in_ok-add_row.ensures.done (clean_before ghosts second before))
      (c.in_ok-add_row-2.ensures.done before) rewritten
      (c.in_ok-push_came.ensures
      ∙ ap (λ front. front ++ came_columns c.args.came) c.in_ok-record_row.ensures)
      c.in_ok-make_row.ensures.made mark_is holds new);
}
