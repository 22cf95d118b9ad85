-- The reports, a row for each.
use Rattle.std.specs.Prelude.{ℕ, ℤ, Bool, true, false, List, [], ◌∷◌, Option, Some, None, bytes_eq}
use Rattle.std.specs.Prelude.{codes, find, option_map}
use Rattle.book_reports.specs.declared.report.PeriodReport.{PeriodReport}
use Rattle.book_reports.specs.declared.report.PeriodReport.TheVariants as of_period
use Rattle.book_reports.specs.declared.report.Report.{Report}
use Rattle.book_reports.specs.declared.report.Report.TheVariants as made
use Rattle.book_reports.specs.declared.what_if.StatementForm.{StatementForm}
use Rattle.book_reports.specs.declared.what_if.StatementForm.TheVariants as form
use Rattle.report_rows.specs.declared.about.About.{About}
use Rattle.report_rows.specs.declared.about.About.TheVariants as about
use Rattle.report_rows.specs.declared.report_row.BodyKind.{BodyKind}
use Rattle.report_rows.specs.declared.report_row.BodyKind.TheVariants as body
use Rattle.report_rows.specs.declared.report_row.ReportName.{ReportName}
use Rattle.report_rows.specs.declared.report_row.ReportName.TheVariants as report
use Rattle.report_rows.specs.declared.report_row.ReportRow.{ReportRow}
use Rattle.report_rows.specs.declared.report_row.Shape.{Shape}
use Rattle.report_rows.specs.declared.report_row.Shape.TheVariants.{OfCentre, OfDay, OfOffice}
use Rattle.report_rows.specs.declared.report_row.Shape.TheVariants.{OfPeriod, OfRecord}

-- The word that asks for a report; what it is about; whether it is also a table, and also a page; whether
-- it is written while the books are open; whether it is also made by the prices of another tariff; where it
-- is served, as a text and as a table; and what it is as a text.
pub record Row : Type 0 where
  pub word : List ℕ
  pub shape : Shape
  pub csv : Bool
  pub html : Bool
  pub streamed : Bool
  pub by_prices : Bool
  pub path : Option (List ℕ)
  pub csv_path : Option (List ℕ)
  pub kind : BodyKind

-- a row of the code, as one reads it
abbrev pub row_seen : ReportRow → Row
row_seen row = record {
  word = row.word.now;
  shape = row.shape;
  csv = row.csv;
  html = row.html;
  streamed = row.streamed;
  by_prices = row.by_prices;
  path = option_map (λ path. path.now) row.path;
  csv_path = option_map (λ path. path.now) row.csv_path;
  kind = row.kind;
}

-- a report that is a text, wherever it is served, and no table
abbrev pub text_row : List ℕ → Shape → Option (List ℕ) → Row
text_row word shape path = record {
  word = word;
  shape = shape;
  csv = false;
  html = false;
  streamed = false;
  by_prices = false;
  path = path;
  csv_path = None;
  kind = body.Text;
}

-- one that is served as a text and as a table
abbrev pub table_row : List ℕ → Shape → List ℕ → List ℕ → Row
table_row word shape path csv_path =
    record (text_row word shape (Some path)) { csv = true; csv_path = Some csv_path }

-- The table: a row is one of these two, but for what it says.
unfoldable pub row_of : ReportName → Row
row_of report.Statement =
    record (table_row (codes "statement") OfCentre (codes "/statement/") (codes "/statement-csv/")) {
      by_prices = true;
    }
row_of report.Adjustments =
    table_row (codes "adjustments") OfCentre (codes "/adjustments/") (codes "/adjustments-csv/")
row_of report.Details =
    record (table_row (codes "details") OfCentre (codes "/details/") (codes "/details-csv/")) {
      streamed = true;
    }
row_of report.Bill =
    record (text_row (codes "bill") OfCentre None) {
      csv = true;
      html = true;
      csv_path = Some (codes "/bill-csv/");
    }
row_of report.BillPage =
    record (text_row (codes "bill") OfCentre (Some (codes "/bill/"))) { kind = body.Page }
row_of report.Focus =
    record (text_row (codes "focus") OfPeriod (Some (codes "/focus/"))) { kind = body.Csv }
row_of report.Coverage =
    table_row (codes "coverage") OfPeriod (codes "/coverage/") (codes "/coverage-csv/")
row_of report.Page =
    record (text_row (codes "page") OfPeriod (Some (codes "/period/"))) { kind = body.Page }
row_of report.Disputes =
    record (table_row (codes "disputes") OfOffice (codes "/disputes") (codes "/disputes-csv")) {
      streamed = true;
    }
row_of report.Record = text_row (codes "record") OfRecord (Some (codes "/record/"))
row_of report.Periods = text_row (codes "periods") OfOffice (Some (codes "/periods"))
row_of report.Rulings =
    record (text_row (codes "rulings") OfOffice (Some (codes "/rulings"))) { streamed = true }
row_of report.Journal =
    record (text_row (codes "journal") OfOffice None) { csv = true; streamed = true }
row_of report.TariffText =
    record (text_row (codes "tariff-text") OfDay (Some (codes "/tariff/"))) { kind = body.TariffFile }

-- the report that is the page of one that is also a page
abbrev pub page_of : ReportName → ReportName
page_of report.Bill = report.BillPage
page_of name = name

-- the reports that have a command of their own, in the order of the program's help
abbrev pub commands : List ReportName
commands = report.Statement ∷ report.Adjustments ∷ report.Details ∷ report.Bill ∷ report.Focus
    ∷ report.Coverage ∷ report.Page ∷ report.Disputes ∷ report.Record ∷ report.Periods
    ∷ report.Rulings ∷ report.Journal ∷ report.TariffText ∷ []

-- all reports: the page of another one, and those
abbrev pub reports : List ReportName
reports = report.BillPage ∷ commands

-- the text is the word of the report
abbrev pub has_word : List ℕ → ReportName → Bool
has_word text name = bytes_eq (row_of name).word text

-- the report whose command a word is, if it is one
abbrev pub named_report : List ℕ → Option ReportName
named_report text = find (has_word text) commands

-- where a report is served in a form, if it is, and what it is in that form
abbrev pub path_in : Row → StatementForm → Option (List ℕ)
path_in row form.Text = row.path
path_in row form.Table = row.csv_path

abbrev pub kind_in : Row → StatementForm → BodyKind
kind_in row form.Text = row.kind
kind_in row form.Table = body.Csv

-- The report that a name makes of what it is about. Details and the journal are made only as they are
-- written.
abbrev pub statement_in : StatementForm → PeriodReport
statement_in form.Text = of_period.Statement
statement_in form.Table = of_period.StatementTable

abbrev pub adjustments_in : StatementForm → PeriodReport
adjustments_in form.Text = of_period.AdjustmentList
adjustments_in form.Table = of_period.AdjustmentTable

-- of a period, of one centre or of the whole office
abbrev pub report_of_centre : ReportName → StatementForm → ℕ → Option (List ℕ) → Option Report
report_of_centre report.Statement form period centre =
    Some (made.OfPeriod (statement_in form) period centre)
report_of_centre report.Adjustments form period centre =
    Some (made.OfPeriod (adjustments_in form) period centre)
report_of_centre report.Bill form period centre = Some (made.Bill form period centre)
report_of_centre report.BillPage form.Text period centre = Some (made.BillPage period centre)
report_of_centre name form period centre = None

-- of a period of the whole office: coverage alone has two forms
abbrev pub report_of_period : ReportName → StatementForm → ℕ → Option Report
report_of_period report.Focus form.Text period = Some (made.Focus period)
report_of_period report.Coverage form period = Some (made.Coverage form period)
report_of_period report.Page form.Text period = Some (made.PeriodPage period)
report_of_period name form period = None

-- of the books
abbrev pub report_of_office : ReportName → StatementForm → Option Report
report_of_office report.Disputes form.Text = Some made.DisputeList
report_of_office report.Disputes form.Table = Some made.DisputeTable
report_of_office report.Periods form = Some made.PeriodList
report_of_office report.Rulings form = Some made.RulingList
report_of_office name form = None

-- of the tariff of a day, of one that another took the place of, and of a record
abbrev pub report_of_day : ReportName → ℤ → Option Report
report_of_day report.TariffText day = Some (made.TariffText day)
report_of_day name day = None

abbrev pub report_of_replaced : ReportName → ℤ → List ℕ → Option Report
report_of_replaced report.TariffText day digest = Some (made.ReplacedText day digest)
report_of_replaced name day digest = None

abbrev pub report_of_record : ReportName → List ℕ → Option Report
report_of_record report.Record record_name = Some (made.Record record_name)
report_of_record name record_name = None

-- the report of this name about that, if it is about such a thing
abbrev pub report_about : ReportName → StatementForm → About → Option Report
report_about name form (about.OfCentre period centre) = report_of_centre name form period centre
report_about name form (about.OfPeriod period) = report_of_period name form period
report_about name form about.OfOffice = report_of_office name form
report_about name form (about.OfDay day) = report_of_day name day
report_about name form (about.OfReplaced day digest) = report_of_replaced name day digest
report_about name form (about.OfRecord record_name) = report_of_record name record_name
