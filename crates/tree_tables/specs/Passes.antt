-- A pass over all records, by name: which of them are still to come, and what a step of it takes.
use Rattle.std.specs.Prelude.{◌≡◌, ◌∷◌, [], ℕ, Bool, true, false, List, map}
use Rattle.sqlite_trees.specs.View.{View}
use Rattle.sqlite_value.specs.Order.{Row}
use Rattle.table_model.specs.Tables.{CameTable, RecordRow}
use Rattle.tree_rows.specs.Passes.{HasLeft}
use Rattle.tree_tables.specs.Columns.{record_columns}

-- these are still to come
abbrev pub HasRecordsLeft : CameTable → View → List (List ℕ × RecordRow) → Type 0
HasRecordsLeft came view left = HasLeft view (map (record_columns came) left)

-- The row is that of the first of these, and the others are still to come; or there is none.
abbrev pub TakesFirst : CameTable → List (List ℕ × RecordRow) → View → Row → Bool → Type 0
TakesFirst came left new row true =
    (entry : List ℕ × RecordRow) × (others : List (List ℕ × RecordRow))
    × (left ≡ entry ∷ others) × (row ≡ record_columns came entry) × HasRecordsLeft came new others
TakesFirst came left new row false = (left ≡ []) × HasRecordsLeft came new []

-- the row is that of the first record that was still to come, or none was
abbrev pub TakesNext : View → View → Row → Bool → Type 0
TakesNext old new row there =
    (came : CameTable) (left : List (List ℕ × RecordRow)) → HasRecordsLeft came old left
    → TakesFirst came left new row there
