-- The rows of work: what steps or jobs cost by day and shift, and by tariff and shift, each with the
-- percent by which it is priced.
use Rattle.std.specs.Prelude.{ℕ, nat_lt, ℤ, int_lt, Bool, true, false, not, ◌&&◌, ◌||◌, List, [], ◌∷◌}
use Rattle.std.specs.Prelude.{codes, fold, if◌then◌else◌, map, sum_by, Some}
use Rattle.std.specs.Fmt.{decimal}
use Rattle.book_model.specs.declared.bill.BilledShift.{BilledShift}
use Rattle.book_model.specs.declared.bill.BilledTariff.{BilledTariff}
use Rattle.book_model.specs.declared.row.ChargeRow.{ChargeRow}
use Rattle.book_model.specs.Words.{day_text_of, same_bytes}
use Rattle.report_texts.specs.Columns.{amount_text, seconds_text}
use Rattle.bill_texts.specs.declared.part.Layout.{Layout}
use Rattle.bill_texts.specs.declared.part.Layout.TheVariants as laid
use Rattle.bill_texts.specs.declared.part.PartName.{PartName}
use Rattle.bill_texts.specs.declared.work_rows.WorkRow.{WorkRow}
use Rattle.bill_texts.specs.Sheets.{Fields, PartSeen}
use Rattle.bill_texts.specs.ShiftSums.{by_tariff}

-- a shift's percent on a day: that of the last tariff of the bill that has begun by then
abbrev pub is_shift_on : ℤ → List ℕ → BilledShift → Bool
is_shift_on day name shift = not (int_lt day shift.day) && same_bytes shift.shift name

abbrev pub percent_by : ℤ → List ℕ → ℕ → BilledShift → ℕ
percent_by day name found shift = if is_shift_on day name shift then shift.percent else found

unfoldable pub percent_on : List BilledShift → ℤ → List ℕ → ℕ
percent_on shifts day name = fold (percent_by day name) 0 shifts

-- a row of work with its percent
unfoldable pub day_row : List BilledShift → ChargeRow → WorkRow
day_row shifts row = record {
  day = row.day;
  shift = row.shift;
  percent = percent_on shifts row.day row.shift;
  count = row.count;
  cpu = row.cpu;
  blocks = row.blocks;
  amount = row.amount;
}

-- what CPU time and blocks show, where they have a price, and the fields of a row
unfoldable pub work_fields : Bool → WorkRow → Fields
work_fields has_work row =
    day_text_of row.day ∷ row.shift ∷ decimal row.percent ∷ decimal row.count
    ∷ (if has_work then seconds_text row.cpu else [])
    ∷ (if has_work then decimal row.blocks else []) ∷ amount_text row.amount ∷ []

-- the rows of some work by day and shift, and by tariff and shift
abbrev pub day_rows : Bool → List BilledShift → List ChargeRow → List Fields
day_rows has_work shifts rows = map (λ row. work_fields has_work (day_row shifts row)) rows

abbrev pub shift_rows :
    Bool → List BilledTariff → List BilledShift → List ChargeRow → List Fields
shift_rows has_work tariffs shifts rows = day_rows has_work shifts (by_tariff tariffs rows)

-- the row of their sums
unfoldable pub total_work : Bool → List ChargeRow → Fields
total_work has_work rows =
    codes "TOTAL" ∷ [] ∷ [] ∷ decimal (sum_by (λ row. row.count) rows)
    ∷ (if has_work then seconds_text (sum_by (λ row. row.cpu) rows) else [])
    ∷ (if has_work then decimal (sum_by (λ row. row.blocks) rows) else [])
    ∷ amount_text (sum_by (λ row. row.amount) rows) ∷ []

-- CPU time and blocks stay blank where they have no price
abbrev pub work_layout : Bool → Layout
work_layout has_work = if has_work then laid.Work else laid.Counts

-- some tariff has a price for the CPU time or for the blocks of jobs
abbrev pub prices_work : BilledTariff → Bool
prices_work tariff = nat_lt 0 tariff.job.cpu || nat_lt 0 tariff.job.excp

abbrev pub or_prices_work : Bool → BilledTariff → Bool
or_prices_work found tariff = if prices_work tariff then true else found

unfoldable pub jobs_have_work : List BilledTariff → Bool
jobs_have_work tariffs = fold or_prices_work false tariffs

-- a part of work
abbrev pub work_part : PartName → Bool → List ChargeRow → List Fields → PartSeen
work_part name has_work rows fields = record {
  name = name;
  layout = work_layout has_work;
  rows = fields;
  total = Some (total_work has_work rows);
}
