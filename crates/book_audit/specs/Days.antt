-- The charge rows that are due.
use Rattle.std.specs.Prelude.{◌≡◌, ℕ, ℤ, Bool, true, not, List, None, int_lt, map}
use Rattle.sqlite_value.specs.Order.{Row}
use Rattle.book_model.specs.Std.{last_or, option_map_or}
use Rattle.book_model.specs.declared.row.ChargeRow.{ChargeRow}
use Rattle.book_model.specs.declared.row.RowKey.{RowKey}
use Rattle.table_model.specs.Words.{row_key}
use Rattle.tree_tables.specs.Columns.{day_columns}
use Rattle.consistent_tables.specs.DueRows.{due_entry}
use Rattle.book_audit.specs.declared.day_sums.DayRow.{DayRow}

-- a day is not after the last close
abbrev pub is_closed : List ℤ → ℤ → Bool
is_closed closes day = not (option_map_or (λ last. int_lt last day) (last_or None closes) true)

-- a row as it was read
abbrev pub entry_of : DayRow → (ℕ × RowKey) × ChargeRow
entry_of row = ((row.period, row_key row.sums), row.sums)

-- the rows are those of these sums, each in the period of its day
abbrev pub AreDueRows : List ℤ → List ChargeRow → List Row → Type 0
AreDueRows closes sums rows = rows ≡ map day_columns (map (due_entry closes) sums)
