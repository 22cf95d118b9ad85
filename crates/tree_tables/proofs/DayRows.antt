-- Charge rows: how they are written, and what is read of them.
use Rattle.std.proofs.Common.{◌≡◌, ◌∷◌, [], ℕ, pos, true, false, cond, List, Bool, map}
use Rattle.std.proofs.Common.{Option, Some, None, refl, sym, ap, ap₂, subst, ◌∙◌}
use Rattle.std.specs.FinMap.{entries, get, get-insert, get-remove, insert, remove}
use Rattle.std.specs.List.{AllZip}
use Rattle.std.specs.Ordering.{eq_by_cmp}
use Rattle.std.specs.declared.cmp.Ordering.{Ordering}
use Rattle.std.proofs.lemmas.Map.Views.{tells_apart}
use Rattle.sqlite_trees.proofs.ListLemmas.{all-filter}
use Rattle.sqlite_trees.specs.Tree.{insert_entry, remove_entry}
use Rattle.sqlite_trees.specs.View.{View}
use Rattle.sqlite_value.specs.Keys.{plain}
use Rattle.sqlite_value.specs.Order.{Row, column}
use Rattle.sqlite_value.specs.declared.value.Value.TheVariants.{Int, Text}
use Rattle.std.specs.Prelude.{◌==◌}
use Rattle.book_model.specs.Words.{by_key}
use Rattle.book_model.specs.declared.row.ChargeRow.{ChargeRow}
use Rattle.book_model.specs.declared.row.RowKey.{RowKey}
use Rattle.table_model.specs.PeriodRows.{by_period, rows_under}
use Rattle.table_model.specs.Steps.{drop_day_row, put_day_row}
use Rattle.table_model.specs.Tables.{DayTable, Tables}
use Rattle.table_model.specs.TablesOf.{row_key}
use Rattle.tree_rows.specs.Layouts.{Answers}
use Rattle.tree_rows.specs.Rows.{ChangesRow, Finds, Rewrites}
use Rattle.tree_rows.specs.Runs.{run_of}
use Rattle.tree_rows.proofs.Keyed.{row_found}
use Rattle.tree_rows.proofs.Maps.{inserted, not_none}
use Rattle.tree_rows.proofs.Runs.{run_numbered}
use Rattle.tree_rows.proofs.Taking.{removed, some_is}
use Rattle.tree_tables.specs.Answers.{FindsDay, ListsDays}
use Rattle.tree_tables.specs.Columns.{day_columns, day_key_columns}
use Rattle.tree_tables.specs.Days.{SaysDay}
use Rattle.tree_tables.specs.Holds.{AreUnderOwnKeys}
use Rattle.tree_tables.specs.Steps.{Changes}
use Rattle.tree_tables.specs.declared.day_rows.StoredDay.{StoredDay}
use Rattle.tree_tables.proofs.Holding.{has_rows, have_but, holds_rows}
use Rattle.tree_tables.proofs.Layouts.{day_layout}
use Rattle.tree_tables.proofs.RecordIndexes.{row_changed}
use Rattle.tree_tables.proofs.RowsRead.{all_entries, same_count, same_int, same_text, told_of_all}

-- the order of charge rows
abbrev by_spot : ℕ × RowKey → ℕ × RowKey → Ordering
by_spot = by_period by_key

-- a row at its own place leaves the others at theirs
pub placed_put : (days : DayTable) (key : ℕ × RowKey) (row : ChargeRow) → row_key row ≡ key.1
    → AreUnderOwnKeys days → AreUnderOwnKeys (insert days key row)
placed_put days key row own placed other found there =
    elim (eq_by_cmp by_spot other key) as (λ b. eq_by_cmp by_spot other key ≡ b
    → cond b (Some row) (get days other) ≡ Some found → row_key found ≡ other.1) [
      | true ↦ λ tie is.
          ap row_key (sym (some_is row found is)) ∙ own
          ∙ ap (λ spot. spot.1) (sym (tells_apart day_layout.exact other key tie))
      | false ↦ λ tie is. placed other found is
    ] refl (sym (get-insert day_layout.total days key row other) ∙ there)

-- and so does one that goes
pub placed_drop : (days : DayTable) (key : ℕ × RowKey) → AreUnderOwnKeys days
    → AreUnderOwnKeys (remove days key)
placed_drop days key placed other found there =
    elim (eq_by_cmp by_spot other key) as (λ b. cond b None (get days other) ≡ Some found
    → row_key found ≡ other.1) [
      | true ↦ λ is. absurd (not_none found (sym is))
      | false ↦ λ is. placed other found is
    ] (sym (get-remove day_layout.total days key other) ∙ there)

-- a row joins the table where none was found at its place,
pub day_added : {old new : View} {columns : Row} (period : ℕ) (row : ChargeRow)
    (found : Option ChargeRow) → found ≡ None
    → Rewrites old new 4 (insert_entry plain columns (old.trees 4))
    → columns ≡ day_columns ((period, row_key row), row)
    → Changes old new (λ tables. FindsDay period (row_key row) tables found)
    (put_day_row period row)
day_added period row found none added row_is = record {
  only = added.only;
  made = λ tables holds finds.
      holds_rows (placed_put tables.days (period, row_key row) row refl holds.placed)
      (have_but 4 added.others
      (added.rows_now ∙ ap₂ (insert_entry plain) row_is holds.days
      ∙ inserted day_layout tables.days (period, row_key row) row (sym finds ∙ none))
      (has_rows holds) refl);
}

-- and where one was found, that makes way for it
pub day_changed : {old new : View} {before columns : Row} (period : ℕ) (row was : ChargeRow)
    (found : Option ChargeRow) → found ≡ Some was → ChangesRow old new 4 before columns
    → before ≡ day_columns ((period, row_key was), was)
    → columns ≡ day_columns ((period, row_key row), row)
    → Changes old new (λ tables. FindsDay period (row_key row) tables found)
    (put_day_row period row)
day_changed period row was found some changes before_is row_is = record {
  only = changes.only;
  made = λ tables holds finds.
      let there : get tables.days (period, row_key row) ≡ Some was = sym finds ∙ some in
      let own : row_key was ≡ row_key row = holds.placed (period, row_key row) was there in
      holds_rows (placed_put tables.days (period, row_key row) row refl holds.placed)
      (have_but 4 changes.others
      (changes.rows_now
      ∙ row_changed day_layout tables.days (period, row_key row) was row row_is
      (before_is ∙ ap (λ (place : RowKey). day_columns ((period, place), was)) own)
      holds.days there)
      (has_rows holds) refl);
}

-- a row that was found at its place, and goes, is gone from the table
pub day_gone : {old new : View} {before : Row} (period : ℕ) (was : ChargeRow)
    → Rewrites old new 4 (remove_entry plain before (old.trees 4))
    → before ≡ day_columns ((period, row_key was), was)
    → Changes old new (λ tables. FindsDay period (row_key was) tables (Some was))
    (drop_day_row period (row_key was))
day_gone period was gone before_is = record {
  only = gone.only;
  made = λ tables holds finds.
      holds_rows (placed_drop tables.days (period, row_key was) holds.placed)
      (have_but 4 gone.others
      (gone.rows_now ∙ ap₂ (remove_entry plain) before_is holds.days
      ∙ removed day_layout tables.days (period, row_key was) was (sym finds))
      (has_rows holds) refl);
}

-- what is read of the row of a charge row at its place is the charge row
pub day_said : (charge : ChargeRow) (entry : (ℕ × RowKey) × ChargeRow) (columns : Row)
    → row_key entry.1 ≡ entry.0.1 → columns ≡ day_columns entry → SaysDay columns charge
    → charge ≡ entry.1
day_said charge entry columns own is says =
    let day : charge.day ≡ entry.1.day =
    same_int charge.day entry.0.1.day (sym says.day ∙ ap (λ r. column r 1) is)
    ∙ ap (λ (k : RowKey). k.day) (sym own) in
    let centre : charge.centre ≡ entry.1.centre =
    same_text charge.centre entry.0.1.centre (sym says.centre ∙ ap (λ r. column r 2) is)
    ∙ ap (λ (k : RowKey). k.centre) (sym own) in
    let shift : charge.shift ≡ entry.1.shift =
    same_text charge.shift entry.0.1.shift (sym says.shift ∙ ap (λ r. column r 3) is)
    ∙ ap (λ (k : RowKey). k.shift) (sym own) in
    let count : charge.count ≡ entry.1.count =
    same_count charge.count entry.1.count (sym says.count ∙ ap (λ r. column r 4) is) in
    let cpu : charge.cpu ≡ entry.1.cpu =
    same_count charge.cpu entry.1.cpu (sym says.cpu ∙ ap (λ r. column r 5) is) in
    let blocks : charge.blocks ≡ entry.1.blocks =
    same_count charge.blocks entry.1.blocks (sym says.blocks ∙ ap (λ r. column r 6) is) in
    let amount : charge.amount ≡ entry.1.amount =
    same_count charge.amount entry.1.amount (sym says.amount ∙ ap (λ r. column r 7) is) in
    λ i. record {
      day = day i;
      centre = centre i;
      shift = shift i;
      count = count i;
      cpu = cpu i;
      blocks = blocks i;
      amount = amount i;
    }

module _ (period : ℕ) (place : RowKey) (tables : Tables) {rows : List Row} {key columns : Row}
    {hit : Bool} (finds : Finds key rows columns hit)
    (held : rows ≡ map day_columns (entries tables.days))
    (key_is : key ≡ day_key_columns (period, place)) where
  -- where no row has the place, the table has none
  pub day_missing : hit ≡ false → FindsDay period place tables None
  day_missing missed =
      sym (subst (Answers day_layout tables.days (period, place) columns) missed
      (row_found day_layout tables.days (period, place) finds held key_is))

  -- and where one has, what is read of it is the table's
  pub day_found : (charge : ChargeRow) → AreUnderOwnKeys tables.days → hit ≡ true
      → SaysDay columns charge → FindsDay period place tables (Some charge)
  day_found charge placed found says =
      let answer = subst (Answers day_layout tables.days (period, place) columns) found
      (row_found day_layout tables.days (period, place) finds held key_is) in
      ap (λ row. Some row) (day_said charge ((period, place), answer.0) columns
      (placed (period, place) answer.0 answer.1) answer.2 says) ∙ sym answer.1

-- the run of a period's number is that of its charge rows
pub days_run : (period : ℕ) (tables : Tables) (rows : List Row) (key : Row)
    → rows ≡ map day_columns (entries tables.days) → key ≡ Int (pos period) ∷ []
    → run_of key rows ≡ map day_columns (rows_under period tables.days)
days_run period tables rows key held key_is =
    ap (λ k. run_of k rows) key_is ∙ ap (run_of (Int (pos period) ∷ [])) held
    ∙ run_numbered by_key day_layout
    (λ (place : RowKey). Int place.day ∷ Text place.centre ∷ Text place.shift ∷ [])
    (λ n place. refl) period tables.days

-- the charge rows of a period are those that are read of the rows of its number
pub days_read : (period : ℕ) (tables : Tables) (rows : List Row) (key : Row)
    (days : List StoredDay) → rows ≡ map day_columns (entries tables.days)
    → AreUnderOwnKeys tables.days → key ≡ Int (pos period) ∷ []
    → AllZip (λ columns day. SaysDay columns day.charge) (run_of key rows) days
    → ListsDays period tables (map (λ day. day.charge) days)
days_read period tables rows key days held placed key_is says =
    told_of_all day_columns (λ columns (day : StoredDay). SaysDay columns day.charge)
    (λ (day : StoredDay). day.charge) (λ (row : (ℕ × RowKey) × ChargeRow). row.1)
    (λ (row : (ℕ × RowKey) × ChargeRow). row_key row.1 ≡ row.0.1)
    (λ day entry columns own is said. day_said day.charge entry columns own is said)
    (run_of key rows) days (rows_under period tables.days)
    (all-filter (λ (row : (ℕ × RowKey) × ChargeRow). row_key row.1 ≡ row.0.1)
    (λ row. row.0.0 == period) (entries tables.days)
    (all_entries day_layout.total day_layout.exact
    (λ (row : (ℕ × RowKey) × ChargeRow). row_key row.1 ≡ row.0.1) tables.days placed)) says
    (days_run period tables rows key held key_is)
