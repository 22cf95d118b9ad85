-- Tariffs and closes, as they are read of their rows.
use Rattle.std.proofs.Common.{◌≡◌, ℕ, ℤ, pos, List, Option, Some, None, map, sym}
use Rattle.std.specs.Prelude.{string_bytes}
use Rattle.std.specs.List.{AllZip}
use Rattle.sqlite_value.specs.Order.{Row, column}
use Rattle.sqlite_value.specs.declared.value.Value.TheVariants.{Int, Text}
use Rattle.tree_tables.specs.Columns.{closed_columns, tariff_columns, tariff_value}
use Rattle.tree_tables.specs.Stored.{close_entry, tariff_of}
use Rattle.tree_tables.specs.declared.closed_rows.Close.{Close}
use Rattle.tree_tables.specs.declared.tariff_rows.StoredTariff.{StoredTariff}
use Rattle.tree_tables.proofs.RowsRead.{same_count, same_int, told_of_each}

-- what the columns of a tariff's row say
abbrev SaysTariff : Row → StoredTariff → Type 0
SaysTariff row tariff =
    (column row 0 ≡ Int tariff.day) × (column row 1 ≡ Text (string_bytes tariff.body))

-- a text is known by its value
pub same_text : (found : Option (List ℕ)) (text : List ℕ) → tariff_value found ≡ Text text → Some text ≡ found
same_text None text e = cc
same_text (Some found) text e = cc

-- a tariff that a row says is the one that the row is made of
tariff_said : (tariff : ℤ × Option (List ℕ)) (stored : StoredTariff)
    → SaysTariff (tariff_columns tariff) stored → tariff_of stored ≡ tariff
tariff_said tariff stored says = λ i. (
  same_int stored.day tariff.0 (sym says.0) i,
  same_text tariff.1 (string_bytes stored.body) says.1 i,
)

-- so the tariffs that are read of all rows are those of the table
pub tariffs_said : (tariffs : List (ℤ × Option (List ℕ))) (list : List StoredTariff)
    → AllZip SaysTariff (map tariff_columns tariffs) list → map tariff_of list ≡ tariffs
tariffs_said = told_of_each tariff_columns SaysTariff tariff_of tariff_said

-- what the columns of a close's row say
abbrev pub SaysClose : Row → Close → Type 0
SaysClose row close =
    (column row 0 ≡ Int (pos close.period)) × (column row 1 ≡ Int close.through)

-- and so are the closes
pub closes_said : (closes : List (ℕ × ℤ)) (list : List Close)
    → AllZip SaysClose (map closed_columns closes) list → map close_entry list ≡ closes
closes_said = told_of_each closed_columns SaysClose close_entry (λ close stored says i. (
  same_count stored.period close.0 (sym says.0) i,
  same_int stored.through close.1 (sym says.1) i,
))
