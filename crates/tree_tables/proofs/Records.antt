-- Records by name: what is found of them, and the trees that hold them after a step.
use Rattle.std.proofs.Common.{◌≡◌, ◌∙◌, ℕ, List, [], ◌∷◌, Bool, true, false, None, Some, pos}
use Rattle.std.proofs.Common.{◌++◌, Option, is_some, map, refl, sym, ap, ap₂, subst, slice_set}
use Rattle.std.specs.FinMap.{entries, get, insert}
use Rattle.std.specs.Option.{option_map}
use Rattle.sqlite_trees.specs.Tree.{insert_entry}
use Rattle.sqlite_trees.specs.View.{View}
use Rattle.sqlite_value.specs.Keys.{plain}
use Rattle.sqlite_value.specs.Order.{Row, column}
use Rattle.sqlite_value.specs.declared.value.Value.TheVariants.{Blob, Int}
use Rattle.table_model.specs.RowChanges.{mark_at}
use Rattle.table_model.specs.Steps.{put_came, put_record_row, set_mark_row}
use Rattle.table_model.specs.Tables.{CameTable, RecordRow, Tables}
use Rattle.tree_rows.specs.Indexes.{index_of}
use Rattle.tree_rows.specs.Layouts.{Answers}
use Rattle.tree_rows.specs.Rows.{ChangesRow, Finds, IsUnchanged, Rewrites, rows_changed}
use Rattle.tree_rows.proofs.Indexes.{index_same}
use Rattle.tree_rows.proofs.Keyed.{row_found}
use Rattle.tree_rows.proofs.Maps.{inserted}
use Rattle.tree_tables.proofs.CameRows.{came_elsewhere, came_own}
use Rattle.tree_tables.proofs.CountedRows.{counted_stays, details_same}
use Rattle.tree_tables.proofs.Holding.{apart, has_rows, have_but, holds_rows}
use Rattle.tree_tables.proofs.Layouts.{record_layout, identity_layout, mark_layout}
use Rattle.tree_tables.proofs.Looking.{rewrites_after_look}
use Rattle.tree_tables.proofs.RecordIndexes.{identity_named, mark_named}
use Rattle.tree_tables.proofs.RecordIndexes.{index_row_added, index_row_changed, row_changed}
use Rattle.tree_tables.specs.Answers.{FindsRecord}
use Rattle.tree_tables.specs.Columns.{came_columns, detail_columns, flag, record_columns}
use Rattle.tree_tables.specs.Columns.{identity_columns, record_front}
use Rattle.tree_tables.specs.Columns.{mark_columns}
use Rattle.table_model.specs.DetailsRead.{detail_shown}
use Rattle.tree_tables.specs.Holds.{Holds, by_shown, identity_key, mark_key}
use Rattle.tree_tables.specs.Stored.{IsFree, stored_entry}
use Rattle.tree_tables.specs.declared.stored_record.StoredRecord.{StoredRecord}

-- A record is looked up by name.
module _ (tables : Tables) {name : List ℕ} {rows : List Row} {key row : Row} {hit : Bool}
    (held : rows ≡ map (record_columns tables.came) (entries tables.records)) (key_is : key ≡ Blob name ∷ [])
    (finds : Finds key rows row hit)
  where
    -- one that is not found is not there
    pub record_missing : hit ≡ false → get tables.records name ≡ None
    record_missing missing =
        subst (Answers (record_layout tables.came) tables.records name row) missing
        (row_found (record_layout tables.came) tables.records name finds held key_is)

    -- one that is found is there, and the row is its own
    pub record_there : hit ≡ true
        → (found : RecordRow) × (get tables.records name ≡ Some found)
        × (row ≡ record_columns tables.came (name, found))
    record_there there =
        subst (Answers (record_layout tables.came) tables.records name row) there
        (row_found (record_layout tables.came) tables.records name finds held key_is)

    -- so none is found
    pub record_none : hit ≡ false → FindsRecord name tables None
    record_none missing =
        ap (option_map (λ (one : RecordRow). (name, one))) (sym (record_missing missing))

    -- or what is read of the row is the record
    pub record_some : (stored : StoredRecord) → hit ≡ true
        → ((came : CameTable) (entry : List ℕ × RecordRow) → row ≡ record_columns came entry
        → stored_entry stored ≡ entry)
        → FindsRecord name tables (Some stored)
    record_some stored there says =
        let found = record_there there in
        ap Some (says tables.came (name, found.0) found.2)
        ∙ ap (option_map (λ (one : RecordRow). (name, one))) (sym found.1)

-- The row of a new record joins the records, and its keys the two trees that find them. It is not
-- counted, so the details stay. The others came by the entries that they came by.
added : {old one two new : View} {tables : Tables} (name : List ℕ) (row : RecordRow)
    (came : CameTable) {made identity mark : Row}
    → Rewrites old one 3 (insert_entry plain made (old.trees 3))
    → Rewrites one two 6 (insert_entry plain identity (one.trees 6))
    → Rewrites two new 7 (insert_entry plain mark (two.trees 7))
    → made ≡ record_columns came (name, row)
    → identity ≡ identity_columns (identity_key (name, row), tt)
    → mark ≡ mark_columns (mark_key (name, row), tt)
    → map (record_columns tables.came) (entries tables.records)
    ≡ map (record_columns came) (entries tables.records)
    → Holds old.trees tables → IsFree name tables
    → Holds new.trees (record (put_record_row name row tables) { came = came })
added {old} {one} {two} {new} {tables} name row came first second third made_is identity_is
    mark_is others holds free =
    holds_rows holds.placed (have_but {old = new.trees} 10 (λ other apart. refl)
    (third.others 10 (apart 10 7 refl) ∙ second.others 10 (apart 10 6 refl)
    ∙ first.others 10 (apart 10 3 refl) ∙ holds.details
    ∙ ap (λ rows. map detail_columns (entries (index_of {P = by_shown} detail_shown rows)))
    (sym (counted_stays tables.counted tables.records name row (ap is_some free.uncounted))))
    (have_but 7 third.others
    (third.rows_now ∙ index_row_added mark_named mark_layout tables.records name row mark_is
    (second.others 7 (apart 7 6 refl) ∙ first.others 7 (apart 7 3 refl) ∙ holds.marks) free.none)
    (have_but 6 second.others
    (second.rows_now
    ∙ index_row_added identity_named identity_layout tables.records name row identity_is
    (first.others 6 (apart 6 3 refl) ∙ holds.identity_index) free.none)
    (have_but 3 first.others
    (first.rows_now ∙ ap₂ (insert_entry plain) made_is (holds.records ∙ others)
    ∙ inserted (record_layout came) tables.records name row free.none) (has_rows holds) refl) refl)
    refl) refl)

-- So it does with the number of the entry by which it came, if it came by one.
pub record_added : {old one two new : View} {tables : Tables} (name : List ℕ) (row : RecordRow)
    (came : Option ℕ) {made identity mark : Row}
    → Rewrites old one 3 (insert_entry plain made (old.trees 3))
    → Rewrites one two 6 (insert_entry plain identity (one.trees 6))
    → Rewrites two new 7 (insert_entry plain mark (two.trees 7))
    → made ≡ record_front (name, row) ++ came_columns came
    → identity ≡ identity_columns (identity_key (name, row), tt)
    → mark ≡ mark_columns (mark_key (name, row), tt)
    → Holds old.trees tables → IsFree name tables
    → Holds new.trees (put_came name came (put_record_row name row tables))
record_added {tables = tables} name row None first second third made_is identity_is mark_is holds
    free =
    added name row tables.came first second third
    (made_is ∙ ap (λ found. record_front (name, row) ++ came_columns found) (sym free.came))
    identity_is mark_is refl holds free
record_added {tables = tables} name row (Some number) first second third made_is identity_is mark_is
    holds free =
    added name row (insert tables.came name number) first second third
    (made_is ∙ ap (λ found. record_front (name, row) ++ came_columns found)
    (sym (came_own tables.came name number)))
    identity_is mark_is (came_elsewhere tables.records tables.came name number free.none) holds free

-- the record with this mark
abbrev marked : Bool → RecordRow → RecordRow
marked mark row = record row { charged = mark }

-- After a look the row of a record makes room for the one with this mark, and its mark for the
-- other; its identity stays, and what details show of it.
pub record_marked : (old : View) {look mid new : View} (tables : Tables) (name : List ℕ)
    (mark : Bool) (row : RecordRow) {before made from to : Row} → IsUnchanged old look
    → ChangesRow look mid 3 before made → ChangesRow mid new 7 from to
    → before ≡ record_columns tables.came (name, row)
    → made ≡ slice_set before 9 (Int (pos (flag mark)))
    → from ≡ column before 9 ∷ column before 1 ∷ column before 0 ∷ []
    → to ≡ Int (pos (flag mark)) ∷ column before 1 ∷ column before 0 ∷ []
    → get tables.records name ≡ Some row → Holds old.trees tables
    → Holds new.trees (set_mark_row mark name tables)
record_marked old {look} {mid} {new} tables name mark row {before} {made} {from} {to} same first
    second before_is made_is from_is to_is some holds =
    let records = tables.records in
    let value = Int (pos (flag mark)) in
    let now = marked mark row in
    let behind : Rewrites old mid 3 (rows_changed before made (look.trees 3)) =
    rewrites_after_look {old = old} same first in
    subst (λ found. Holds new.trees (record tables { records = mark_at mark name found records }))
    (sym some)
    (holds_rows holds.placed (have_but {old = new.trees} 10 (λ other apart. refl)
    (second.others 10 (apart 10 7 refl) ∙ behind.others 10 (apart 10 3 refl) ∙ holds.details
    ∙ ap (λ shown. map detail_columns (entries shown))
    (sym (details_same tables.counted records name row now some refl)))
    (have_but 7 second.others
    (second.rows_now ∙ index_row_changed mark_named mark_layout records name row now
    (to_is ∙ ap (λ one. value ∷ column one 1 ∷ column one 0 ∷ []) before_is)
    (from_is ∙ ap (λ one. column one 9 ∷ column one 1 ∷ column one 0 ∷ []) before_is)
    (behind.others 7 (apart 7 3 refl) ∙ holds.marks) some)
    (have_but {old = mid.trees} 6 (λ other apart. refl)
    (behind.others 6 (apart 6 3 refl) ∙ holds.identity_index
    ∙ ap (λ keys. map identity_columns (entries keys))
    (sym (index_same identity_named records name row now some refl)))
    (have_but 3 behind.others
    (behind.rows_now ∙ row_changed (record_layout tables.came) records name row now
    (made_is ∙ ap (λ one. slice_set one 9 value) before_is) before_is
    (ap (λ (v : View). v.trees 3) same ∙ holds.records) some) (has_rows holds) refl) refl) refl)
    refl))
