use Rattle.std.proofs.Common.{◌≡◌, ◌++◌, OnOk, append_assoc, option_map, subst}
use Rattle.book_model.specs.Words.{ending_shown}
use Rattle.tree_tables.specs.JournalColumns.{act_columns, act_stored, ending_columns}
use Rattle.tree_tables.specs.declared.entry_rows.StoredAct.TheVariants as stored
use Rattle.tree_tables.proofs.entry_rows.push_import.Goals as goal

-- the word and an empty place join the row, then what was read, and then why it ended
pub returns : goal.returns
returns c =
    let reading = c.args.reading.now in
    let ending = c.args.ending in
    let same : c.push_reading.new.row ++ ending_columns (option_map ending_shown ending)
    ≡ c.args.row.now ++ act_columns (act_stored (stored.Import reading ending c.args.kept)) =
    rw c.in_ok-push_reading.ensures (rw c.in_ok-push-2.ensures.ok (rw c.in_ok-push.ensures.ok
    (rw c.as_bytes.ensures.value (simp append_assoc)))) in
    subst (λ row. OnOk c.push_ending.result (c.push_ending.new.row ≡ row)) same
    c.push_ending.ensures
