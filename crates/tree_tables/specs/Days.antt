-- What is asked of charge rows that are written, what their rows say, and how those of a period
-- that are dated after a day go to the next one.
use Rattle.std.specs.Prelude.{◌≡◌, ℕ, ℤ, suc, ◌<◌, ◌^◌, pos, false}
use Rattle.std.specs.FinMap.{contains_key}
use Rattle.sqlite_trees.specs.Tree.{Trees}
use Rattle.sqlite_trees.specs.View.{View, OnlyWrites}
use Rattle.sqlite_value.specs.Order.{Row, column}
use Rattle.sqlite_value.specs.declared.value.Value.TheVariants.{Int, Text}
use Rattle.book_model.specs.declared.row.ChargeRow.{ChargeRow}
use Rattle.book_model.specs.declared.row.RowKey.{RowKey}
use Rattle.table_model.specs.MapChanges.{moved}
use Rattle.table_model.specs.RowChanges.{move_on}
use Rattle.table_model.specs.Tables.{DayTable, Tables}
use Rattle.tree_rows.specs.Changes.{MovesApart}
use Rattle.tree_tables.specs.Holds.{Holds}

-- the row's sums fit a signed number of 64 bits
pub record RowFits (row : ChargeRow) : Type 0 where
  pub count : row.count < 2 ^ 63
  pub cpu : row.cpu < 2 ^ 63
  pub blocks : row.blocks < 2 ^ 63
  pub amount : row.amount < 2 ^ 63

-- the columns after the period are those of the charge row
pub record SaysDay (row : Row) (charge : ChargeRow) : Type 0 where
  pub day : column row 1 ≡ Int charge.day
  pub centre : column row 2 ≡ Text charge.centre
  pub shift : column row 3 ≡ Text charge.shift
  pub count : column row 4 ≡ Int (pos charge.count)
  pub cpu : column row 5 ≡ Int (pos charge.cpu)
  pub blocks : column row 6 ≡ Int (pos charge.blocks)
  pub amount : column row 7 ≡ Int (pos charge.amount)

-- the next period has no rows yet
abbrev pub NoneNext : ℕ → Tables → Type 0
NoneNext period tables =
    (place : RowKey) → contains_key tables.days (suc period, place) ≡ false

-- Charge rows, some of which went on already: no two go to one place, and where all go that have
-- to go they are what the old rows are then.
pub record GoneOn (period : ℕ) (day : ℤ) (before days : DayTable) : Type 0 where
  pub apart : MovesApart (move_on period day) days
  pub same : moved (move_on period day) days ≡ moved (move_on period day) before

-- some rows of the period that are dated after the day went to the next one, and nothing else is
-- changed
pub record MovesSome (old new : View) (period : ℕ) (day : ℤ) : Type 0 where
  pub only : OnlyWrites old new
  pub made : (tables : Tables) → Holds old.trees tables
      → MovesApart (move_on period day) tables.days
      → (days : DayTable) × Holds new.trees (record tables { days = days })
      × GoneOn period day tables.days days

-- no row of the period is dated after the day: none has to go any more
abbrev pub NoneLater : Trees → ℕ → ℤ → Type 0
NoneLater trees period day =
    (tables : Tables) → Holds trees tables → moved (move_on period day) tables.days ≡ tables.days
