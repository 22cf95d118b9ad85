-- Laws of the rows of bills: the percents by which they are priced stand on the bill, and each row
-- checks by its price and its percent.
use Rattle.std.specs.Prelude.{◌≡◌, ℕ, ◌+◌, ◌*◌, ◌≤◌, ℤ, All, Contains, List, Option, Some, Ok}
use Rattle.tariff_rules.specs.Price.{amount_of, half_parts, hundredth_parts, record_parts, shift_at}
use Rattle.tariff_rules.specs.Price.{whole_parts}
use Rattle.tariff_rules.specs.TariffFile.{terms_in}
use Rattle.tariff_rules.specs.Terms.{RatesOf, Terms}
use Rattle.tariff_rules.specs.declared.priced.Priced.{Priced}
use Rattle.tariff_rules.specs.declared.shift.Shift.{Shift}
use Rattle.book_model.specs.declared.bill.BilledTariff.{BilledTariff}
use Rattle.book_model.specs.declared.row.ChargeRow.{ChargeRow}
use Rattle.book_model.specs.declared.row.RowKey.{RowKey}
use Rattle.book_model.specs.Words.{BillSeen, Book, Naming, Period, Rulings, bill_of, charged_at}
use Rattle.book_model.specs.Words.{in_force, period_of, row_at, shifts_of, tariff_by}
use Rattle.bill_texts.specs.ShiftSums.{by_tariff}
use Rattle.table_model.specs.Readable.{IsReadable}

-- what so much work comes to by rates and a percent, in parts of a ten-thousandth
abbrev pub parts_by : RatesOf → ℕ → ℕ → ℕ → ℕ → ℕ
parts_by rates percent count cpu blocks =
    (hundredth_parts * cpu * rates.cpu + blocks * rates.excp
    + record_parts * count * rates.record_fee) * percent

-- a record is priced by these rates and this percent
abbrev pub IsPricedBy : RatesOf → ℕ → Priced → Type 0
IsPricedBy rates percent priced =
    priced.amount ≡ amount_of rates percent priced.cpu priced.excp

-- A row checks: by rates and a percent its work comes to its amount, but for half a ten-thousandth
-- for each of its records.
pub record Checks (rates : RatesOf) (percent : ℕ) (row : ChargeRow) : Type 0 where
  pub no_less : parts_by rates percent row.count row.cpu row.blocks
      ≤ whole_parts * row.amount + half_parts * row.count
  pub no_more : whole_parts * row.amount
      ≤ parts_by rates percent row.count row.cpu row.blocks + half_parts * row.count

-- the shift of a moment, by which a record of that moment is priced, is one of the tariff's
abbrev pub ShiftsPrice : Type 0
ShiftsPrice =
    (terms : Terms) (day : ℤ) (time : ℕ)
    → Contains (shifts_of terms) (shift_at terms.shifts day time)

-- of what a tariff file says no shift has two percents
abbrev pub OnePercentAShift : Type 0
OnePercentAShift =
    (text : List ℕ) (terms : Terms) (one other : Shift)
    → terms_in text ≡ Ok terms
    → Contains (shifts_of terms) one
    → Contains (shifts_of terms) other
    → one.name ≡ other.name
    → one.percent ≡ other.percent

-- where all that is charged at a place has the same rates and percent, its row checks by them
abbrev pub RowsCheck : Type 0
RowsCheck =
    (rates : RatesOf) (percent : ℕ) (priced : List Priced) (key : RowKey)
    → All (IsPricedBy rates percent) (charged_at priced key)
    → Checks rates percent (row_at priced key)

-- A row checks by a tariff of a bill, which is that of its day in a sense: by the tariff's rates, and
-- by the percent that the row's shift has there.
pub record ChecksByTariff (IsOf : ℤ → Terms → Type 0) (rates_in : Terms → RatesOf)
    (tariffs : List BilledTariff) (row : ChargeRow) : Type 0 where
  pub terms : Terms
  pub its : IsOf row.day terms
  pub stands : Contains tariffs (tariff_by terms.effective terms)
  pub percent : ℕ
  pub shift : Contains (shifts_of terms) (record { name = row.shift; percent = percent })
  pub checks : Checks (rates_in terms) percent row

-- the tariff is in force on the day; and it begins on the day
abbrev pub IsInForceOn : Rulings → ℤ → Terms → Type 0
IsInForceOn rulings day terms = in_force day rulings.tariffs ≡ Some terms

abbrev pub BeginsOn : ℤ → Terms → Type 0
BeginsOn day terms = day ≡ terms.effective

-- Rows check, by day and by shift. One tariff is in force on a day, so none has two prices.
pub record RowsCheckBy (rates_in : Terms → RatesOf) (rulings : Rulings)
    (tariffs : List BilledTariff) (rows : List ChargeRow) : Type 0 where
  pub by_day : All (ChecksByTariff (IsInForceOn rulings) rates_in tariffs) rows
  pub by_shift : All (ChecksByTariff BeginsOn rates_in tariffs) (by_tariff tariffs rows)

-- the rows of a bill check: those of steps by the rates of steps, those of jobs by the rates of jobs
pub record BillChecks (rulings : Rulings) (bill : BillSeen) : Type 0 where
  pub steps : RowsCheckBy (λ terms. terms.step) rulings bill.tariffs bill.steps
  pub jobs : RowsCheckBy (λ terms. terms.job) rulings bill.tariffs bill.jobs

-- so it is in books that can be read back
abbrev pub BilledRowsCheck : Type 0
BilledRowsCheck =
    (naming : Naming) (book : Book) (number : ℕ) (period : Period) (centre : Option (List ℕ))
    → IsReadable naming book
    → period_of book number ≡ Some period
    → BillChecks book.rulings (bill_of naming book number centre period)
