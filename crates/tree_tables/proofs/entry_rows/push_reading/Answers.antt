use Rattle.std.proofs.Common.{◌≡◌, ◌++◌, OnOk, append_assoc, subst}
use Rattle.book_model.specs.Words.{reading_shown}
use Rattle.tree_tables.specs.JournalColumns.{other_columns, reading_columns}
use Rattle.tree_tables.proofs.entry_rows.push_reading.Goals as goal

-- the five columns join the row one by one, and then the others
pub returns : goal.returns
returns c =
    let reading = reading_shown c.args.reading.now in
    let same : c.push_number-4.new.row ++ other_columns reading
    ≡ c.args.row.now ++ reading_columns reading c.args.kept =
    rw c.in_ok-push_number-4.ensures (rw c.in_ok-push_number-3.ensures
    (rw c.in_ok-push_number-2.ensures (rw c.in_ok-push_number.ensures
    (rw c.in_ok-push.ensures.ok (simp append_assoc))))) in
    subst (λ row. OnOk c.push_others.result (c.push_others.new.row ≡ row)) same
    c.push_others.ensures
