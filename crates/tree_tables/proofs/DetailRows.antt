-- The rows of details after a step: where a record is counted, or is so no more.
use Rattle.std.proofs.Common.{◌≡◌, ◌∙◌, ℕ, List, false, cond, None, Some, is_some, map, refl, sym}
use Rattle.std.proofs.Common.{ap}
use Rattle.std.specs.Cmp.Lexicographic.{nat_list_cmp_total}
use Rattle.std.specs.FinMap.{entries, get, get-insert, get-remove, insert, remove}
use Rattle.std.specs.Ordering.{eq_by_cmp}
use Rattle.sqlite_trees.specs.Tree.{Trees, insert_entry}
use Rattle.sqlite_trees.specs.View.{View}
use Rattle.sqlite_value.specs.Keys.{plain}
use Rattle.sqlite_value.specs.Order.{Row}
use Rattle.table_model.specs.Steps.{count_row, uncount_row}
use Rattle.table_model.specs.Tables.{CountedTable, RecordRow, Tables}
use Rattle.tree_rows.specs.Indexes.{by_bytes, index_of}
use Rattle.tree_rows.specs.Layouts.{rows_of}
use Rattle.tree_rows.specs.Rows.{Drops, Puts, Rewrites}
use Rattle.tree_rows.proofs.Keyed.{rows_dropped, rows_put}
use Rattle.tree_tables.specs.Columns.{detail_columns}
use Rattle.table_model.specs.DetailsRead.{detail_shown}
use Rattle.tree_tables.specs.Holds.{Holds, by_shown, counted_among, detail_index}
use Rattle.tree_tables.specs.Stored.{IsUncounted}
use Rattle.tree_tables.proofs.CountedRows.{counted_joined, counted_missing, detail_joined}
use Rattle.tree_tables.proofs.CountedRows.{detail_left, detail_named, row_counted}
use Rattle.tree_tables.proofs.Holding.{has_rows, have_but, holds_rows}
use Rattle.tree_tables.proofs.Layouts.{detail_layout}
use Rattle.tree_tables.proofs.RecordIndexes.{index_row_added}

-- The row of a record that was not counted joins those of the details.
pub detail_added : {old new : View} {tables : Tables} (entry : List ℕ × RecordRow) {made : Row}
    → Rewrites old new 10 (insert_entry plain made (old.trees 10))
    → made ≡ detail_columns (detail_shown entry, tt)
    → Holds old.trees tables → IsUncounted entry tables
    → Holds new.trees (count_row entry.0 tables)
detail_added {tables = tables} entry rewrites made_is holds new =
    let counted = tables.counted in
    let records = tables.records in
    let none : get (counted_among counted records) entry.0 ≡ None =
    row_counted counted records entry.0 entry.1 new.there
    ∙ ap (λ had. cond (is_some had) (Some entry.1) None) new.uncounted in
    holds_rows holds.placed (have_but 10 rewrites.others
    (rewrites.rows_now
    ∙ index_row_added detail_named detail_layout (counted_among counted records) entry.0 entry.1
    made_is holds.details none
    ∙ ap (λ rows. rows_of detail_layout (index_of {P = by_shown} detail_shown rows))
    (sym (counted_joined counted records entry.0 entry.1 new.there))) (has_rows holds) refl)

-- The record of a name was found.
module _ {tables : Tables} {name : List ℕ} {row : RecordRow} {made : Row}
    (some : get tables.records name ≡ Some row)
    (made_is : made ≡ detail_columns (detail_shown (name, row), tt))
  where
    -- its row is put among those of the details: it is counted,
    pub detail_put : {old new : View} → Puts old new 10 made made → Holds old.trees tables
        → Holds new.trees (count_row name tables)
    detail_put puts holds =
        holds_rows holds.placed (have_but 10 puts.rewrites.others
        (rows_put detail_layout (detail_index tables.counted tables.records)
        (detail_shown (name, row)) tt puts holds.details made_is made_is
        ∙ ap (rows_of detail_layout)
        (sym (detail_joined tables.counted tables.records name row some))) (has_rows holds) refl)

    -- or is dropped: it is so no more
    pub detail_dropped : {old new : View} → Drops old new 10 made → Holds old.trees tables
        → Holds new.trees (uncount_row name tables)
    detail_dropped drops holds =
        holds_rows holds.placed (have_but 10 drops.rewrites.others
        (rows_dropped detail_layout (detail_index tables.counted tables.records)
        (detail_shown (name, row)) drops holds.details made_is
        ∙ ap (rows_of detail_layout)
        (sym (detail_left tables.counted tables.records name row some))) (has_rows holds) refl)

-- No record has a name.
module _ {tables : Tables} {trees : Trees} (name : List ℕ) (none : get tables.records name ≡ None)
    (holds : Holds trees tables)
  where
    -- the trees are the same where only that name joins or leaves those that are counted
    others_held : (now : CountedTable)
        → ((other : List ℕ) → eq_by_cmp by_bytes other name ≡ false
        → get now other ≡ get tables.counted other)
        → Holds trees (record tables { counted = now })
    others_held now same =
        holds_rows holds.placed (have_but {old = trees} 10 (λ other apart. refl)
        (holds.details
        ∙ ap (λ rows. map detail_columns (entries (index_of {P = by_shown} detail_shown rows)))
        (sym (counted_missing tables.counted now tables.records name none same))) (has_rows holds)
        refl)

    pub count_missing : Holds trees (count_row name tables)
    count_missing =
        others_held (insert tables.counted name tt) (λ other other_name.
        get-insert nat_list_cmp_total tables.counted name tt other
        ∙ ap (λ b. cond b (Some tt) (get tables.counted other)) other_name)

    pub uncount_missing : Holds trees (uncount_row name tables)
    uncount_missing =
        others_held (remove tables.counted name) (λ other other_name.
        get-remove nat_list_cmp_total tables.counted name other
        ∙ ap (λ b. cond b None (get tables.counted other)) other_name)
