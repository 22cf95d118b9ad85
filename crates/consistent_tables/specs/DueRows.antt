-- The charge rows that are due, each in the period of its day.
use Rattle.std.specs.Prelude.{◌+◌, ℕ, ℤ, List, [], ◌∷◌, int_lt, if◌then◌else◌}
use Rattle.book_model.specs.declared.row.ChargeRow.{ChargeRow}
use Rattle.book_model.specs.declared.row.RowKey.{RowKey}
use Rattle.table_model.specs.TablesOf.{row_key}

-- the period of a day, where this is the number of the first: that of the first close through it
-- or a later day
abbrev pub period_from : ℕ → List ℤ → ℤ → ℕ
period_from number [] day = number
period_from number (through ∷ later) day =
    if int_lt through day then period_from (number + 1) later day else number

-- a row in the period of its day
abbrev pub due_entry : List ℤ → ChargeRow → (ℕ × RowKey) × ChargeRow
due_entry closes row = ((period_from 1 closes row.day, row_key row), row)
