-- What was worked in a period: the charge rows of its steps and those of its jobs.
use Rattle.std.specs.Prelude.{◌≡◌, ◌<◌, ◌+◌, ◌^◌, ℕ, ℤ, List, sum_by, Option}
use Rattle.book_model.specs.declared.bill.WorkRows.{WorkRows}
use Rattle.book_model.specs.declared.detail.Detail.{Detail}
use Rattle.book_model.specs.declared.row.ChargeRow.{ChargeRow}
use Rattle.book_model.specs.Words.{AreRows, Book, Naming, Outcome, details_outcome, jobs_of, no_event}
use Rattle.book_model.specs.Words.{steps_of, work_rows}
use Rattle.book_lists.specs.Shown.{shown_by}
use Rattle.book_reports.specs.declared.bill_work.PeriodWork.{PeriodWork}
use Rattle.book_reports.specs.Shown.{closed_through}

-- rows of steps and of jobs that a bill can show: with what lines charge and credits add, 64 bits hold
-- what they cost
pub record AreWork (steps jobs : List ChargeRow) : Type 0 where
  pub step_rows : AreRows steps
  pub job_rows : AreRows jobs
  pub amount : sum_by (λ row. row.amount) steps + sum_by (λ row. row.amount) jobs < 2 ^ 62

-- they are the rows of these details
pub record IsWorkOf (details : List Detail) (rows : WorkRows) : Type 0 where
  pub steps : rows.steps.items ≡ work_rows (steps_of details)
  pub jobs : rows.jobs.items ≡ work_rows (jobs_of details)
  pub shown : AreWork rows.steps.items rows.jobs.items

-- the day that a period was closed through, if it was, and the rows of its steps and of its jobs
pub record WorkSeen : Type 0 where
  pub through : Option ℤ
  pub steps : List ChargeRow
  pub jobs : List ChargeRow

-- the same as it is returned
abbrev pub work_shown : PeriodWork → WorkSeen
work_shown work = record {
  through = work.through;
  steps = work.rows.steps.items;
  jobs = work.rows.jobs.items;
}

-- the same by the period's details
abbrev pub work_seen : Option ℤ → List Detail → WorkSeen
work_seen through details = record {
  through = through;
  steps = work_rows (steps_of details);
  jobs = work_rows (jobs_of details);
}

-- what a book answers to it, for the centre that is named or for the whole office
abbrev pub work_outcome : Naming → ℕ → Option (List ℕ) → Book → Outcome WorkSeen
work_outcome naming period centre book =
    no_event (shown_by (work_seen (closed_through book period))
    (details_outcome naming period centre book).answer)
