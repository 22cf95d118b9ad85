-- Details that are read one after another, and their rows.
use Rattle.std.specs.Prelude.{◌≡◌, ◌++◌, ◌∷◌, [], ℕ, pos, Bool, true, false, not, List, Option}
use Rattle.std.specs.Prelude.{None, Some}
use Rattle.std.specs.FinMap.{get}
use Rattle.std.specs.Ordering.{int_cmp, is_lt, ordering_then}
use Rattle.sqlite_trees.specs.View.{View}
use Rattle.sqlite_value.specs.Order.{Row}
use Rattle.sqlite_value.specs.declared.value.Value.TheVariants.{Blob, Int, Text}
use Rattle.tariff_rules.specs.declared.priced.Priced.{Priced}
use Rattle.book_model.specs.Words.{by_bytes, by_detail}
use Rattle.book_model.specs.declared.detail.Detail.{Detail}
use Rattle.table_model.specs.DetailsRead.{FindsLeast, detail_shown}
use Rattle.table_model.specs.Tables.{RecordRow, Tables}
use Rattle.tree_rows.specs.Rows.{Replaces}
use Rattle.tree_tables.specs.Columns.{detail_columns}
use Rattle.tree_tables.specs.Stored.{priced_entry, stored_entry}
use Rattle.tree_tables.specs.declared.detail_rows.DetailStart.{DetailStart}
use Rattle.tree_tables.specs.declared.detail_rows.DetailStart.TheVariants.{After, Centre, Day, First}
use Rattle.tree_tables.specs.declared.stored_record.StoredRecord.{StoredRecord}

-- it does not come before the start
abbrev pub is_reached : DetailStart → Detail → Bool
is_reached First detail = true
is_reached (Day day) detail = not (is_lt (int_cmp detail.priced.day day))
is_reached (Centre day centre) detail =
    not (is_lt (ordering_then (int_cmp detail.priced.day day)
    (by_bytes detail.priced.centre centre)))
is_reached (After last) detail = is_lt (by_detail last detail)

-- the first of those from the start on, if there is one
abbrev pub FindsDetail : DetailStart → Tables → Option Detail → Type 0
FindsDetail start = FindsLeast (is_reached start)

-- The first columns of those that are not before the start. No name comes between one and the same
-- with a 0 behind it.
abbrev pub start_columns : DetailStart → Row
start_columns First = []
start_columns (Day day) = Int day ∷ []
start_columns (Centre day centre) = Int day ∷ Text centre ∷ []
start_columns (After last) =
    Int last.priced.day ∷ Text last.priced.centre ∷ Text last.priced.shift
    ∷ Int (pos last.time) ∷ Blob (last.name ++ 0 ∷ []) ∷ []

-- the row that details have of a record
abbrev pub shown_columns : List ℕ × RecordRow → Row
shown_columns entry = detail_columns (detail_shown entry, tt)

-- that of the record of a name, or that there is no such record
abbrev pub MakesDetail : List ℕ → Tables → Row → Bool → Type 0
MakesDetail name tables row true =
    (found : RecordRow) × (get tables.records name ≡ Some found) × (row ≡ shown_columns (name, found))
MakesDetail name tables row false = get tables.records name ≡ None

-- details show that a record which was read costs this, where they show it at all
abbrev pub PricesDetail : View → View → StoredRecord → Priced → Type 0
PricesDetail old new stored priced =
    Replaces old new 10 (shown_columns (stored_entry stored))
    (shown_columns (priced_entry stored priced))
