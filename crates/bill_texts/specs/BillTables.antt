-- Bills as tables of comma-separated values: of a centre a line for each row, each line and each
-- credit, and below them one for each price and percent by which rows are worked out; of the office a
-- line for each centre.
use Rattle.std.specs.Prelude.{ℕ, Bool, true, if◌then◌else◌, List, [], ◌∷◌, ◌++◌, codes, flat_map}
use Rattle.std.specs.Prelude.{decimal, ℤ}
use Rattle.book_model.specs.Std.{int_eq}
use Rattle.hex.specs.Hex.{encode_lower}
use Rattle.tariff_rules.specs.Terms.{RatesOf}
use Rattle.book_model.specs.declared.bill.BilledLine.{BilledLine}
use Rattle.book_model.specs.declared.bill.BilledShift.{BilledShift}
use Rattle.book_model.specs.declared.bill.BilledTariff.{BilledTariff}
use Rattle.book_model.specs.declared.line.Line.{Line}
use Rattle.book_model.specs.declared.row.ChargeRow.{ChargeRow}
use Rattle.book_model.specs.Words.{BillSeen, Credit, day_text_of, show_text}
use Rattle.report_texts.specs.AdjustmentLists.{charged_amount, reversed_amount, signed_text}
use Rattle.report_texts.specs.AdjustmentLists.{word_of}
use Rattle.report_texts.specs.Charges.{credits_text, each_charges, owed_text, plain_credit}
use Rattle.report_texts.specs.Columns.{amount_text, number_text, seconds_text}
use Rattle.report_texts.specs.Tables.{fields_line, key_fields}
use Rattle.report_texts.specs.declared.charges.CentreCharges.{CentreCharges}
use Rattle.report_texts.specs.declared.charges.Charges.{Charges}
use Rattle.bill_texts.specs.Booked.{booked, booked_text, owed_of, unit_of}
use Rattle.bill_texts.specs.Sheets.{Fields}
use Rattle.bill_texts.specs.WorkRows.{jobs_have_work, percent_on}

-- the names of the columns of a centre's bill
abbrev pub bill_heading : Fields
bill_heading =
    codes "period" ∷ codes "day" ∷ codes "centre" ∷ codes "shift" ∷ codes "kind" ∷ codes "count"
    ∷ codes "cpu" ∷ codes "blocks" ∷ codes "amount" ∷ codes "of_period" ∷ codes "name"
    ∷ codes "job" ∷ codes "program" ∷ codes "jobid" ∷ codes "step" ∷ codes "percent" ∷ []

-- where a row of work is charged
unfoldable pub row_key_fields : ChargeRow → Fields
row_key_fields row = day_text_of row.day ∷ row.centre ∷ row.shift ∷ []

-- what it is and how much, what it costs, and its percent; it has no record of its own
unfoldable pub work_fields : List ℕ → Bool → ℕ → ChargeRow → Fields
work_fields kind has_work percent row =
    kind ∷ decimal row.count ∷ (if has_work then seconds_text row.cpu else [])
    ∷ (if has_work then decimal row.blocks else []) ∷ amount_text row.amount
    ∷ [] ∷ [] ∷ [] ∷ [] ∷ [] ∷ [] ∷ decimal percent ∷ []

-- its line
unfoldable pub work_row : ℕ → List ℕ → Bool → List BilledShift → ChargeRow → List ℕ
work_row period kind has_work shifts row =
    fields_line (decimal period ∷ row_key_fields row
    ++ work_fields kind has_work (percent_on shifts row.day row.shift) row)

-- what a line does, and its amount
unfoldable pub line_fields : Line → Fields
line_fields line =
    word_of line.plus ∷ [] ∷ [] ∷ []
    ∷ signed_text (charged_amount line) (reversed_amount line) ∷ []

-- the period that a line speaks of, and which record it is of
unfoldable pub record_fields : BilledLine → Fields
record_fields billed =
    number_text billed.period ∷ encode_lower billed.line.name ∷ show_text billed.line.job
    ∷ show_text billed.line.program ∷ show_text billed.line.job_id
    ∷ number_text billed.line.step ∷ []

-- all of these; it has no percent
unfoldable pub billed_fields : BilledLine → Fields
billed_fields billed = line_fields billed.line ++ record_fields billed ++ [] ∷ []

unfoldable pub billed_row : ℕ → BilledLine → List ℕ
billed_row period billed =
    fields_line (decimal period ∷ key_fields billed.line.priced ++ billed_fields billed)

-- what a credit comes to, with its reason where a line has a job: what it takes off is below 0 here
unfoldable pub given_fields : Credit → Fields
given_fields credit =
    let plain = plain_credit credit in
    signed_text plain.debited plain.credited
    ∷ [] ∷ [] ∷ credit.reason ∷ [] ∷ [] ∷ [] ∷ [] ∷ []

-- its row
unfoldable pub credit_row : ℕ → Credit → List ℕ
credit_row period credit =
    fields_line (decimal period ∷ [] ∷ credit.centre ∷ [] ∷ codes "CREDIT" ∷ [] ∷ [] ∷ []
    ∷ given_fields credit)

-- the prices of a tariff: of a record, of a CPU second and of 1,000 blocks, each where the rows have
-- what it multiplies. No amount stands there, so all amounts together are what is owed.
unfoldable pub price_row : ℕ → List ℕ → List ℕ → List ℕ → RatesOf → List ℕ
price_row period centre day kind rates =
    fields_line (decimal period ∷ day ∷ centre ∷ [] ∷ kind ∷ amount_text rates.record_fee
    ∷ amount_text rates.cpu ∷ amount_text rates.excp
    ∷ [] ∷ [] ∷ [] ∷ [] ∷ [] ∷ [] ∷ [] ∷ [] ∷ [])

-- and the percent of one of its shifts, and its line
unfoldable pub percent_fields : ℕ → Fields
percent_fields percent =
    codes "PERCENT" ∷ [] ∷ [] ∷ [] ∷ [] ∷ [] ∷ [] ∷ [] ∷ [] ∷ [] ∷ [] ∷ decimal percent ∷ []

unfoldable pub percent_row : ℕ → List ℕ → BilledShift → List ℕ
percent_row period centre shift =
    fields_line (decimal period ∷ day_text_of shift.day ∷ centre ∷ shift.shift
    ∷ percent_fields shift.percent)

-- where it is a shift of the tariff that begins on a day
unfoldable pub percent_rows : ℕ → List ℕ → ℤ → BilledShift → List ℕ
percent_rows period centre day shift =
    if int_eq shift.day day then percent_row period centre shift else []

-- the lines of a tariff: its prices, and its percents
unfoldable pub tariff_rows : ℕ → List ℕ → List BilledShift → BilledTariff → List ℕ
tariff_rows period centre shifts tariff =
    price_row period centre (day_text_of tariff.day) (codes "STEP-PRICE") tariff.step
    ++ price_row period centre (day_text_of tariff.day) (codes "JOB-PRICE") tariff.job
    ++ flat_map (percent_rows period centre tariff.day) shifts

-- the names of the columns, the steps, the jobs, the lines, the credits, and the tariffs; there is no
-- total
abbrev pub bill_table : List ℕ → ℕ → BillSeen → List ℕ
bill_table centre period bill =
    fields_line bill_heading
    ++ flat_map (work_row period (codes "STEPS") true bill.shifts) bill.steps
    ++ flat_map (work_row period (codes "JOBS") (jobs_have_work bill.tariffs) bill.shifts) bill.jobs
    ++ flat_map (billed_row period) bill.lines
    ++ flat_map (credit_row period) bill.credits
    ++ flat_map (tariff_rows period centre bill.shifts) bill.tariffs

-- the names of the columns of the office's bill
abbrev pub office_columns : Fields
office_columns =
    codes "period" ∷ codes "centre" ∷ codes "steps" ∷ codes "jobs" ∷ codes "late"
    ∷ codes "reversed" ∷ codes "owed" ∷ codes "booked" ∷ codes "credits" ∷ []

-- what a centre is charged, the sum that it owes, what is booked of that, and what is credited
unfoldable pub charge_fields : ℕ → Charges → Fields
charge_fields decimals charges =
    amount_text charges.steps ∷ amount_text charges.jobs ∷ amount_text charges.late
    ∷ amount_text charges.reversed ∷ owed_text charges
    ∷ booked_text decimals (booked (unit_of decimals) (owed_of charges))
    ∷ credits_text charges ∷ []

-- its line
unfoldable pub centre_row : ℕ → ℕ → CentreCharges → List ℕ
centre_row period decimals own =
    fields_line (decimal period ∷ own.centre ∷ charge_fields decimals own.charges)

-- the names of the columns, and a line for each centre that has a row, a line or a credit; there is
-- no total
abbrev pub office_bill_table : ℕ → BillSeen → List ℕ
office_bill_table period bill =
    fields_line office_columns
    ++ flat_map (centre_row period bill.letterhead.decimals) (each_charges bill)
