-- A price that joins the charge rows of a period puts one row, and a price that leaves them puts or
-- drops one, where each row is under its own place.
use Rattle.std.proofs.Common.{◌≡◌, ◌∙◌, ℕ, [], Bool, true, false, cond, Option, Some, None, refl}
use Rattle.std.proofs.Common.{sym, ap, ◌==◌, unwrap_or}
use Rattle.book_model.proofs.Std.{get, insert, remove}
use Rattle.book_model.specs.Words.{Priced, key_of, row_at}
use Rattle.book_core.specs.declared.effects.DayChange.TheVariants.{Add, Take}
use Rattle.book_core.specs.Words.{with_price}
use Rattle.table_model.specs.Words.{less_price, take_at, drop_day_row, put_day_row, Tables, row_key}
use Rattle.table_model.specs.Steps.{change_day_row}
use Rattle.tree_tables.specs.Answers.{FindsDay}
use Rattle.tree_tables.specs.Holds.{AreUnderOwnKeys}
use Rattle.table_ledger.proofs.Words.{ChargeRow, RowKey}

-- what was found at a place was found at that of a row which is under it
pub found_at : (period : ℕ) (tables : Tables) (place : RowKey) (row : ChargeRow)
    (found : Option ChargeRow) → get tables.days (period, place) ≡ found → row_key row ≡ place
    → FindsDay period (row_key row) tables found
found_at period tables place row found is own =
    sym is ∙ ap (λ (at : RowKey). get tables.days (period, at)) (sym own)

module _ (period : ℕ) (priced : Priced) (tables : Tables) (placed : AreUnderOwnKeys tables.days) where
  -- what is at the place of the price
  abbrev there : Option ChargeRow
  there = get tables.days (period, key_of priced)

  -- the row of its place, or an empty one
  abbrev here : Option ChargeRow → ChargeRow
  here found = unwrap_or found (row_at [] (key_of priced))

  -- it is under its own place
  pub here_placed : (found : Option ChargeRow) → there ≡ found
      → row_key (here found) ≡ key_of priced
  here_placed None is = refl
  here_placed (Some row) is = placed (period, key_of priced) row is

  -- a price that joins puts the row of its place
  pub joins : change_day_row period (Some (Add priced)) tables
      ≡ put_day_row period (with_price (here there) priced) tables
  joins =
      ap (λ place. record tables {
        days = insert tables.days (period, place) (with_price (here there) priced);
      })
      (sym (here_placed there refl))

  -- what a price leaves, by whether it is the last one of its row
  leaves_by : (row : ChargeRow) (last : Bool) → there ≡ Some row → (row.count == 1) ≡ last
      → change_day_row period (Some (Take priced)) tables ≡ record tables {
        days = cond last (remove tables.days (period, key_of priced))
            (insert tables.days (period, key_of priced) (less_price row priced));
      }
  leaves_by row last is counts =
      ap (λ found. record tables {
        days = take_at (period, key_of priced) found priced tables.days;
      })
      is
      ∙ ap (λ b. record tables {
        days = cond b (remove tables.days (period, key_of priced))
            (insert tables.days (period, key_of priced) (less_price row priced));
      })
      counts

  -- the last price of a row drops it
  pub leaves_last : (row : ChargeRow) → there ≡ Some row → (row.count == 1) ≡ true
      → change_day_row period (Some (Take priced)) tables
      ≡ drop_day_row period (key_of priced) tables
  leaves_last row is last = leaves_by row true is last

  -- another one puts the row without it
  pub leaves : (row : ChargeRow) → there ≡ Some row → (row.count == 1) ≡ false
      → change_day_row period (Some (Take priced)) tables
      ≡ put_day_row period (less_price row priced) tables
  leaves row is more =
      leaves_by row false is more
      ∙ ap (λ place. record tables {
        days = insert tables.days (period, place) (less_price row priced);
      })
      (sym (placed (period, key_of priced) row is))
