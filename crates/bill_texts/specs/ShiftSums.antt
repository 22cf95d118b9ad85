-- Sums by tariff and shift: rows of work as if each were dated on the first day of its tariff, so that
-- what stands together has one price and one percent.
use Rattle.std.specs.Prelude.{◌≡◌, ℤ, int_lt, List, filter, fold, if◌then◌else◌, map, sum_by}
use Rattle.book_model.specs.declared.bill.BilledTariff.{BilledTariff}
use Rattle.book_model.specs.declared.row.ChargeRow.{ChargeRow}
use Rattle.book_model.specs.declared.row.RowKey.{RowKey}
use Rattle.book_model.specs.Words.{by_key, members, row_key, same_key, set_of}

-- the first day of the tariff of a bill that is in force on a day: the last that has begun by then;
-- the day itself where none has
abbrev pub begun_by : ℤ → ℤ → BilledTariff → ℤ
begun_by day found tariff = if int_lt day tariff.day then found else tariff.day

unfoldable pub since : List BilledTariff → ℤ → ℤ
since tariffs day = fold (begun_by day) day tariffs

-- a row as if it were dated on the first day of its tariff
abbrev pub dated_since : List BilledTariff → ChargeRow → ChargeRow
dated_since tariffs row = record row { day = since tariffs row.day }

-- the places of some rows, each once and in order
abbrev pub places_of : List ChargeRow → List RowKey
places_of rows = members (set_of by_key (map row_key rows))

-- those of the rows that stand at one place, and their sums as a row
abbrev pub rows_at : List ChargeRow → RowKey → List ChargeRow
rows_at rows place = filter (λ row. same_key (row_key row) place) rows

abbrev pub sums_at : List ChargeRow → RowKey → ChargeRow
sums_at rows place = record {
  day = place.day;
  centre = place.centre;
  shift = place.shift;
  count = sum_by (λ row. row.count) (rows_at rows place);
  cpu = sum_by (λ row. row.cpu) (rows_at rows place);
  blocks = sum_by (λ row. row.blocks) (rows_at rows place);
  amount = sum_by (λ row. row.amount) (rows_at rows place);
}

-- rows by tariff and shift
abbrev pub sums_of : List ChargeRow → List ChargeRow
sums_of rows = map (sums_at rows) (places_of rows)

abbrev pub by_tariff : List BilledTariff → List ChargeRow → List ChargeRow
by_tariff tariffs rows = sums_of (map (dated_since tariffs) rows)

-- some rows have the sums of others
pub record HaveSumsOf (rows others : List ChargeRow) : Type 0 where
  pub count : sum_by (λ row. row.count) rows ≡ sum_by (λ row. row.count) others
  pub cpu : sum_by (λ row. row.cpu) rows ≡ sum_by (λ row. row.cpu) others
  pub blocks : sum_by (λ row. row.blocks) rows ≡ sum_by (λ row. row.blocks) others
  pub amount : sum_by (λ row. row.amount) rows ≡ sum_by (λ row. row.amount) others

-- rows by tariff and shift add up to what the rows by day and shift do
abbrev pub ShiftsAddUp : Type 0
ShiftsAddUp =
    (tariffs : List BilledTariff) (rows : List ChargeRow) → HaveSumsOf (by_tariff tariffs rows) rows
