-- A record that is posted by its name: the trees that find it say nothing of that, and no more does
-- its detail.
use Rattle.std.proofs.Common.{◌≡◌, ◌∙◌, ℕ, List, Some, map, refl, sym, ap, subst}
use Rattle.std.specs.Prelude.{ℤ}
use Rattle.std.specs.FinMap.{entries, get, insert}
use Rattle.std.proofs.lemmas.Cmp.{nat_list_cmp_total}
use Rattle.std.proofs.lemmas.Map.Lookups.{exact_bytes}
use Rattle.sqlite_trees.specs.View.{View}
use Rattle.sqlite_value.specs.Order.{Row}
use Rattle.book_model.proofs.MapLemmas.{insert-same}
use Rattle.table_model.specs.DetailsRead.{detail_shown}
use Rattle.table_model.specs.RowChanges.{post_at, post_by}
use Rattle.table_model.specs.Steps.{post_row}
use Rattle.table_model.specs.Tables.{RecordRow, Tables}
use Rattle.tree_rows.specs.Rows.{ChangesRow, IsUnchanged, Rewrites, rows_changed}
use Rattle.tree_rows.proofs.Indexes.{index_same}
use Rattle.tree_tables.proofs.CountedRows.{details_same}
use Rattle.tree_tables.proofs.Holding.{apart, has_rows, have_but, holds_rows}
use Rattle.tree_tables.proofs.Layouts.{record_layout}
use Rattle.tree_tables.proofs.Looking.{rewrites_after_look}
use Rattle.tree_tables.proofs.RecordIndexes.{identity_named, mark_named, row_changed}
use Rattle.tree_tables.proofs.Renewing.{posted_stays}
use Rattle.tree_tables.specs.Columns.{detail_columns, identity_columns, mark_columns}
use Rattle.tree_tables.specs.Columns.{record_columns}
use Rattle.tree_tables.specs.Holds.{Holds, identity_key, mark_key}

-- a record that is posted shows the same in details
pub posted_shown : (day : ℤ) (name : List ℕ) (row : RecordRow)
    → detail_shown (name, post_by day row) ≡ detail_shown (name, row)
posted_shown day name row = posted_stays detail_shown (λ name row. refl) day name row

module _ (tables : Tables) (name : List ℕ) (day : ℤ) (row : RecordRow)
    (some : get tables.records name ≡ Some row)
  where
    abbrev now : RecordRow
    now = post_by day row

    -- one that is posted already stays
    pub nothing_posted : now ≡ row → post_row day name tables ≡ tables
    nothing_posted same =
        ap (λ found. record tables { records = post_at day name found tables.records }) some
        ∙ (λ i. record tables {
          records = (ap (insert tables.records name) same
              ∙ insert-same nat_list_cmp_total exact_bytes tables.records name row some) i;
        })

    -- After a look its row makes room for the one that is posted.
    pub record_posted : (old : View) {look new : View} {before made : Row} → IsUnchanged old look
        → ChangesRow look new 3 before made
        → before ≡ record_columns tables.came (name, row)
        → made ≡ record_columns tables.came (name, now)
        → Holds old.trees tables → Holds new.trees (post_row day name tables)
    record_posted old {look} {new} {before} {made} same written before_is made_is holds =
        let records = tables.records in
        let behind : Rewrites old new 3 (rows_changed before made (look.trees 3)) =
        rewrites_after_look {old = old} same written in
        subst (λ found. Holds new.trees (record tables { records = post_at day name found records }))
        (sym some)
        (holds_rows holds.placed (have_but {old = new.trees} 10 (λ other apart. refl)
        (behind.others 10 (apart 10 3 refl) ∙ holds.details
        ∙ ap (λ shown. map detail_columns (entries shown))
        (sym (details_same tables.counted records name row now some (posted_shown day name row))))
        (have_but {old = new.trees} 7 (λ other apart. refl)
        (behind.others 7 (apart 7 3 refl) ∙ holds.marks
        ∙ ap (λ keys. map mark_columns (entries keys))
        (sym (index_same mark_named records name row now some
        (posted_stays mark_key (λ name row. refl) day name row))))
        (have_but {old = new.trees} 6 (λ other apart. refl)
        (behind.others 6 (apart 6 3 refl) ∙ holds.identity_index
        ∙ ap (λ keys. map identity_columns (entries keys))
        (sym (index_same identity_named records name row now some
        (posted_stays identity_key (λ name row. refl) day name row))))
        (have_but 3 behind.others
        (behind.rows_now ∙ row_changed (record_layout tables.came) records name row now made_is before_is
        (ap (λ (v : View). v.trees 3) same ∙ holds.records) some)
        (has_rows holds) refl) refl) refl) refl))
