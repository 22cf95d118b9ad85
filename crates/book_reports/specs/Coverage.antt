-- The coverage of a period, as a ledger answers it: by the closes around it and its records with
-- their systems.
use Rattle.std.specs.Prelude.{ℕ, ℤ, ◌-◌, List, Option, Result, Ok}
use Rattle.book_model.specs.declared.fault.LedgerFault.{LedgerFault}
use Rattle.book_model.specs.Words.{Book, Naming, Outcome, no_event}
use Rattle.coverage_texts.specs.Coverage.{coverage_rows, coverage_table, coverage_text}
use Rattle.coverage_texts.specs.declared.coverage_rows.CoverageRow.{CoverageRow}
use Rattle.coverage_texts.specs.declared.coverage_rows.SystemDetail.{SystemDetail}
use Rattle.book_lists.specs.Shown.{shown_by}
use Rattle.book_reports.specs.declared.period_days.PeriodDays.{PeriodDays}
use Rattle.book_reports.specs.declared.what_if.StatementForm.{StatementForm}
use Rattle.book_reports.specs.declared.what_if.StatementForm.TheVariants as form
use Rattle.book_reports.specs.Shown.{closed_through}
use Rattle.book_reports.specs.SystemDetails.{system_details}

-- the day of the close before a period, and that of its own close
abbrev pub closes_around : ℕ → Book → PeriodDays
closes_around period book = record {
  before = closed_through book (period - 1);
  through = closed_through book period;
}

-- the same, as a ledger is asked for it
abbrev pub around_outcome : ℕ → Book → Outcome PeriodDays
around_outcome period book = no_event (Ok (closes_around period book))

-- the rows of a period as a list or as a table
abbrev pub coverage_as : StatementForm → ℕ → Option ℤ → List CoverageRow → List ℕ
coverage_as form.Text = coverage_text
coverage_as form.Table = λ period through rows. coverage_table period rows

-- the rows that its records make
abbrev pub rows_by : PeriodDays → List SystemDetail → List CoverageRow
rows_by days details = coverage_rows days.before days.through details

-- what a book answers to them
abbrev pub coverage_rows_answer : Naming → ℕ → Book → Result (List CoverageRow) LedgerFault
coverage_rows_answer naming period book =
    shown_by (rows_by (closes_around period book)) (system_details naming period book)

-- the coverage that they make
abbrev pub coverage_by : StatementForm → ℕ → PeriodDays → List SystemDetail → List ℕ
coverage_by form period days details = coverage_as form period days.through (rows_by days details)

-- what a book answers to it
abbrev pub coverage_answer : Naming → StatementForm → ℕ → Book → Result (List ℕ) LedgerFault
coverage_answer naming form period book =
    shown_by (coverage_by form period (closes_around period book))
    (system_details naming period book)
