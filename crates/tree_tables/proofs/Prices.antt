-- A walk over all records that reads them one at a time, and one that gets another price.
use Rattle.std.proofs.Common.{◌≡◌, ◌∙◌, ℕ, List, true, false, cond, Option, Some, None, map}
use Rattle.std.proofs.Common.{refl, sym, ap, subst}
use Rattle.std.specs.Prelude.{slice_get}
use Rattle.std.specs.FinMap.{entries, get, insert}
use Rattle.sqlite_trees.specs.View.{View}
use Rattle.sqlite_value.specs.Order.{Row}
use Rattle.tariff_rules.specs.declared.priced.Priced.{Priced}
use Rattle.table_model.specs.RowChanges.{price_at}
use Rattle.table_model.specs.Steps.{put_price_row}
use Rattle.table_model.specs.Tables.{CameTable, CountedTable, RecordRow}
use Rattle.table_model.specs.Tables.{RecordTable, Tables}
use Rattle.tree_rows.specs.Indexes.{index_of}
use Rattle.tree_rows.specs.Layouts.{rows_of}
use Rattle.tree_rows.specs.Rows.{ChangesRow, IsFirst, IsUnchanged, Rewrites, rows_changed}
use Rattle.tree_rows.proofs.Indexes.{index_same}
use Rattle.tree_rows.proofs.Keyed.{rows_replaced}
use Rattle.tree_tables.proofs.CountedRows.{counted_by_there, counted_changed, counted_stays}
use Rattle.tree_tables.proofs.CountedRows.{detail_named, row_counted, uncounted_by_missing}
use Rattle.tree_tables.proofs.Holding.{apart, has_rows, have_but, holds_rows}
use Rattle.tree_tables.proofs.Layouts.{detail_layout, record_layout}
use Rattle.tree_tables.proofs.Looking.{rewrites_after_look}
use Rattle.tree_tables.proofs.Renewing.{finds_next}
use Rattle.tree_tables.proofs.RecordIndexes.{identity_named, index_row_changed, mark_named}
use Rattle.tree_tables.proofs.RecordIndexes.{row_changed}
use Rattle.tree_tables.specs.Answers.{FindsNext}
use Rattle.tree_tables.specs.Columns.{identity_columns, mark_columns, record_columns}
use Rattle.tree_tables.specs.Details.{PricesDetail, shown_columns}
use Rattle.table_model.specs.DetailsRead.{detail_shown}
use Rattle.tree_tables.specs.Holds.{Holds, by_shown, counted_among, detail_index}
use Rattle.tree_tables.specs.Stored.{IsAsRead, priced_entry, stored_entry}
use Rattle.tree_tables.specs.Walks.{last_name_key, rows_past}
use Rattle.tree_tables.specs.declared.stored_record.StoredRecord.{StoredRecord}

-- The first row after the key of a name that a walk has come to.
module _ (tables : Tables) (last : Option (List ℕ)) {rows : List Row} {key : Row} (row : Row)
    (held : rows ≡ map (record_columns tables.came) (entries tables.records)) (key_is : key ≡ last_name_key last)
  where
    -- where there is none, no record is left
    pub next_none : IsFirst (rows_past key rows) row false → FindsNext last tables None
    next_none begins =
        ap (λ left. slice_get left 0)
        (sym (finds_next tables.came last tables.records key rows row false key_is held begins))

    -- what is read of it is the next record
    pub next_some : (stored : StoredRecord) → IsFirst (rows_past key rows) row true
        → ((came : CameTable) (entry : List ℕ × RecordRow) → row ≡ record_columns came entry
        → stored_entry stored ≡ entry)
        → FindsNext last tables (Some stored)
    next_some stored begins says =
        let it = finds_next tables.came last tables.records key rows row true key_is held begins in
        ap Some (says tables.came (it.0, it.1) it.4) ∙ ap (λ left. slice_get left 0) (sym it.3)

-- A record has another price, which its detail shows too if it has one.
module _ (counted : CountedTable) (records : RecordTable) (name : List ℕ) (row : RecordRow)
    (priced : Priced) (some : get records name ≡ Some row)
  where
    abbrev now : RecordRow
    now = record row { priced = priced }

    -- where it is counted, the row of its detail makes room for the other
    shown_changed : get (detail_index counted records) (detail_shown (name, row)) ≡ Some tt
        → rows_changed (shown_columns (name, row)) (shown_columns (name, now))
        (rows_of detail_layout (detail_index counted records))
        ≡ rows_of detail_layout (detail_index counted (insert records name now))
    shown_changed there =
        let is = counted_by_there counted records name row some there in
        index_row_changed detail_named detail_layout (counted_among counted records) name row now
        refl refl refl
        (row_counted counted records name row some ∙ ap (λ b. cond b (Some row) None) is)
        ∙ ap (λ rows. rows_of detail_layout (index_of detail_shown rows))
        (sym (counted_changed counted records name now is))

    -- and where it is not, the details stay
    shown_stays : get (detail_index counted records) (detail_shown (name, row)) ≡ None
        → detail_index counted records ≡ detail_index counted (insert records name now)
    shown_stays none =
        ap (index_of {P = by_shown} detail_shown) (sym (counted_stays counted records name now
        (uncounted_by_missing counted records name row some none)))

-- After a look the row of a record that is as it was read makes room for one with another price, and so does that
-- of its detail; its identity and its mark stay.
pub record_priced : (old : View) {look mid new : View} (tables : Tables) (stored : StoredRecord)
    (priced : Priced) {before made : Row} → IsUnchanged old look
    → ChangesRow look mid 3 before made → PricesDetail mid new stored priced
    → before ≡ record_columns tables.came (stored_entry stored)
    → made ≡ record_columns tables.came (priced_entry stored priced)
    → IsAsRead stored tables → Holds old.trees tables
    → Holds new.trees (put_price_row stored.name priced tables)
record_priced old {look} {mid} {new} tables stored priced {before} {made} same written replaces
    before_is made_is stands holds =
    let rewrites : Rewrites old mid 3 (rows_changed before made (look.trees 3)) =
    rewrites_after_look {old = old} same written in
    let records = tables.records in
    let counted = tables.counted in
    let name = stored.name in
    let row : RecordRow = (stored_entry stored).1 in
    let now : RecordRow = record row { priced = priced } in
    subst (λ found. Holds new.trees (record tables {
      records = price_at priced name found records;
    }))
    (sym stands)
    (holds_rows holds.placed (have_but 10 replaces.rewrites.others
    (rows_replaced detail_layout (detail_index counted records)
    (detail_index counted (insert records name now)) (detail_shown (name, row)) replaces
    (rewrites.others 10 (apart 10 3 refl) ∙ holds.details) refl
    (λ there some. shown_changed counted records name row priced stands some)
    (shown_stays counted records name row priced stands))
    (have_but {old = mid.trees} 7 (λ other apart. refl)
    (rewrites.others 7 (apart 7 3 refl) ∙ holds.marks
    ∙ ap (λ keys. map mark_columns (entries keys))
    (sym (index_same mark_named records name row now stands refl)))
    (have_but {old = mid.trees} 6 (λ other apart. refl)
    (rewrites.others 6 (apart 6 3 refl) ∙ holds.identity_index
    ∙ ap (λ keys. map identity_columns (entries keys))
    (sym (index_same identity_named records name row now stands refl)))
    (have_but 3 rewrites.others
    (rewrites.rows_now
    ∙ row_changed (record_layout tables.came) records name row now made_is before_is
    (ap (λ (v : View). v.trees 3) same ∙ holds.records) stands)
    (has_rows holds) refl) refl) refl) refl))
