-- The sheet of a bill: what stands on the bill of a centre, and on that of the office.
use Rattle.std.specs.Prelude.{ℕ, nat_lt, Bool, true, false, List, length}
use Rattle.book_model.specs.Words.{BillSeen}
use Rattle.report_texts.specs.Charges.{all_charges, each_charges}
use Rattle.bill_texts.specs.declared.part.PartName.TheVariants as named
use Rattle.bill_texts.specs.CreditRows.{credits_part}
use Rattle.bill_texts.specs.RecordRows.{side_part}
use Rattle.bill_texts.specs.Sheets.{PartSeen, PartsSeen, SheetSeen}
use Rattle.bill_texts.specs.SumsRows.{centre_sums, office_sums}
use Rattle.bill_texts.specs.TermsRows.{percents_part, prices_part}
use Rattle.bill_texts.specs.WorkRows.{day_rows, jobs_have_work, shift_rows, work_part}

-- the sums, the prices and the percents
abbrev pub sheet_with : PartSeen → BillSeen → SheetSeen
sheet_with sums bill = record {
  sums = sums;
  prices = prices_part bill.tariffs;
  percents = percents_part bill.shifts;
}

-- some credit stands on the bill
abbrev pub has_credits : BillSeen → Bool
has_credits bill = nat_lt 0 (length bill.credits)

abbrev pub centre_sheet : List ℕ → BillSeen → SheetSeen
centre_sheet centre bill =
    sheet_with
    (centre_sums (has_credits bill) bill.letterhead.decimals
    (record { centre = centre; charges = all_charges bill }))
    bill

abbrev pub office_sheet : BillSeen → SheetSeen
office_sheet bill =
    sheet_with
    (office_sums (has_credits bill) bill.letterhead.decimals (each_charges bill)
    (all_charges bill))
    bill

-- what steps cost by shift and by day, and what jobs cost
abbrev pub step_parts : BillSeen → PartSeen × PartSeen
step_parts bill = (
  work_part named.StepsByShift true bill.steps
      (shift_rows true bill.tariffs bill.shifts bill.steps),
  work_part named.StepsByDay true bill.steps (day_rows true bill.shifts bill.steps),
)

abbrev pub job_parts : BillSeen → PartSeen × PartSeen
job_parts bill =
    let has_work = jobs_have_work bill.tariffs in (
      work_part named.JobsByShift has_work bill.jobs
          (shift_rows has_work bill.tariffs bill.shifts bill.jobs),
      work_part named.JobsByDay has_work bill.jobs (day_rows has_work bill.shifts bill.jobs),
    )

-- what came late, or what was reversed
abbrev pub side_of : Bool → BillSeen → ℕ → PartSeen
side_of late bill amount = side_part late bill.lines amount

-- what the sums of a centre are made of
abbrev pub centre_parts : BillSeen → PartsSeen
centre_parts bill = record {
  steps_by_shift = (step_parts bill).0;
  jobs_by_shift = (job_parts bill).0;
  steps_by_day = (step_parts bill).1;
  jobs_by_day = (job_parts bill).1;
  late = side_of true bill (all_charges bill).late;
  reversed = side_of false bill (all_charges bill).reversed;
  credits = credits_part bill.credits (all_charges bill);
}
