-- The texts about books: each is read from a book, which is no event.
use Rattle.std.specs.Prelude.{◌≡◌, ℕ, ℤ, if◌then◌else◌, List, Option, Some, None, Result, Ok, Err}
use Rattle.std.specs.Prelude.{IfOk, IfErr, ok_or, MatchResult}
use Rattle.std.specs.declared.alloc.AllocError.{AllocError}
use Rattle.sha2.specs.Sha256.{sha256}
use Rattle.smf_text.specs.Names.{is_name}
use Rattle.book_model.specs.declared.fault.LedgerFault.{LedgerFault}
use Rattle.book_model.specs.declared.fault.LedgerFault.TheVariants.{Memory, NoSuchTariff}
use Rattle.book_model.specs.declared.line.Line.{Line}
use Rattle.book_model.specs.declared.row.ChargeRow.{ChargeRow}
use Rattle.book_model.specs.Words.{Book, open_period, disputes_in, Outcome, no_event}
use Rattle.book_model.specs.Words.{charges_outcome, adjustments_outcome, disputes_outcome}
use Rattle.book_model.specs.Words.{periods_outcome, Naming, rows_for, rulings_listed}
use Rattle.book_model.specs.Words.{begun_in, of_centre, tariff_text_on}
use Rattle.report_texts.specs.Statements.{statement_text}
use Rattle.report_texts.specs.StatementTables.{statement_table}
use Rattle.report_texts.specs.AdjustmentLists.{adjustment_list_text}
use Rattle.report_texts.specs.AdjustmentTables.{adjustment_table}
use Rattle.report_texts.specs.Centres.{centre_adjustment_table, centre_adjustments_text}
use Rattle.report_texts.specs.Centres.{centre_statement_table, centre_statement_text}
use Rattle.report_texts.specs.DisputeLists.{dispute_list_text}
use Rattle.report_texts.specs.DisputeTables.{dispute_table}
use Rattle.report_texts.specs.PeriodLists.{period_list_text}
use Rattle.report_texts.specs.RulingLists.{ruling_list_text}
use Rattle.book_reports.specs.declared.report.PeriodReport.{PeriodReport}
use Rattle.book_reports.specs.declared.report.PeriodReport.TheVariants.{AdjustmentList, Statement}
use Rattle.book_reports.specs.declared.report.PeriodReport.TheVariants.{AdjustmentTable}
use Rattle.book_reports.specs.declared.report.PeriodReport.TheVariants.{StatementTable}
use Rattle.book_reports.specs.declared.report.Report.{Report}
use Rattle.book_reports.specs.declared.report.Report.TheVariants.{Bill, BillPage, Coverage}
use Rattle.book_reports.specs.declared.report.Report.TheVariants.{DisputeList}
use Rattle.book_reports.specs.declared.report.Report.TheVariants.{DisputeTable, Focus, OfPeriod}
use Rattle.book_reports.specs.declared.report.Report.TheVariants.{OfficePage, PeriodList}
use Rattle.book_reports.specs.declared.report.Report.TheVariants.{PeriodPage, Record, RulingList}
use Rattle.book_reports.specs.declared.report.Report.TheVariants.{ReplacedText, TariffText}
use Rattle.book_reports.specs.BillPages.{bill_page_answer}
use Rattle.book_reports.specs.Bills.{bill_answer}
use Rattle.book_reports.specs.Coverage.{coverage_answer}
use Rattle.book_reports.specs.FocusReports.{focus_answer}
use Rattle.book_reports.specs.Pages.{office_page_answer, period_page_answer}
use Rattle.book_reports.specs.RecordReports.{record_answer}
use Rattle.book_reports.specs.ReplacedTexts.{replaced_text_on}
pub use Rattle.book_lists.specs.Shown.{shown_by}
pub use Rattle.book_reports.specs.Shown.{closed_through, closed_through_outcome}

-- the centre that a text names, if it is a name
abbrev pub centre_named : List ℕ → Option (List ℕ)
centre_named text = if is_name text then Some text else None

-- what a period has, of the whole office or of one centre: its statement, with the day that it was
-- closed through, if it was,
abbrev pub period_statement : Option (List ℕ) → ℕ → Option ℤ → List ChargeRow → List ℕ
period_statement None = statement_text
period_statement (Some centre) = centre_statement_text centre

-- the same as a table,
abbrev pub period_statement_table : Option (List ℕ) → ℕ → List ChargeRow → List ℕ
period_statement_table None = statement_table
period_statement_table (Some centre) = centre_statement_table centre

-- its adjustments,
abbrev pub period_adjustments : Option (List ℕ) → ℕ → Option ℤ → List Line → List ℕ
period_adjustments None = adjustment_list_text
period_adjustments (Some centre) = centre_adjustments_text centre

-- and these as a table
abbrev pub period_adjustment_table : Option (List ℕ) → ℕ → List Line → List ℕ
period_adjustment_table None = adjustment_table
period_adjustment_table (Some centre) = centre_adjustment_table centre

-- what a book answers to that, whatever the centre is
abbrev pub period_answer :
    Naming → PeriodReport → ℕ → Option (List ℕ) → Book → Result (List ℕ) LedgerFault
period_answer naming Statement period centre book =
    shown_by (period_statement centre period (closed_through book period))
    (charges_outcome period book).answer
period_answer naming StatementTable period centre book =
    shown_by (period_statement_table centre period) (charges_outcome period book).answer
period_answer naming AdjustmentList period centre book =
    shown_by (period_adjustments centre period (closed_through book period))
    (adjustments_outcome naming period book).answer
period_answer naming AdjustmentTable period centre book =
    shown_by (period_adjustment_table centre period) (adjustments_outcome naming period book).answer

-- the same as one call of a ledger
abbrev pub period_outcome :
    Naming → PeriodReport → ℕ → Option (List ℕ) → Book → Outcome (List ℕ)
period_outcome naming report period centre book =
    no_event (period_answer naming report period centre book)

-- the list of a book's rulings
abbrev pub ruling_text : Naming → Book → List ℕ
ruling_text naming book = ruling_list_text (rulings_listed naming book.rulings)

-- what a book answers to a report: its text, or the refusal of a centre, a period, a tariff or a record
-- that is not there
abbrev pub report_answer : Naming → Report → Book → Result (List ℕ) LedgerFault
report_answer naming (OfPeriod report period centre) book =
    of_centre (begun_in period book.rulings) centre (period_answer naming report period centre book)
report_answer naming DisputeList book =
    shown_by dispute_list_text (disputes_outcome naming book).answer
report_answer naming DisputeTable book =
    shown_by dispute_table (disputes_outcome naming book).answer
report_answer naming PeriodList book = shown_by period_list_text (periods_outcome book).answer
report_answer naming RulingList book = Ok (ruling_text naming book)
report_answer naming (TariffText day) book = ok_or (tariff_text_on day book.rulings) NoSuchTariff
report_answer naming (ReplacedText day digest) book =
    ok_or (replaced_text_on naming day digest book) NoSuchTariff
report_answer naming (Record name) book = record_answer naming name book
report_answer naming (Bill form period centre) book =
    of_centre (begun_in period book.rulings) centre (bill_answer naming form period centre book)
report_answer naming (BillPage period centre) book =
    of_centre (begun_in period book.rulings) centre (bill_page_answer naming period centre book)
report_answer naming (Focus period) book = focus_answer naming period book
report_answer naming (Coverage form period) book = coverage_answer naming form period book
report_answer naming OfficePage book = office_page_answer naming book
report_answer naming (PeriodPage period) book = period_page_answer naming period book

-- a report, as a ledger is asked for it
abbrev pub report_outcome : Naming → Report → Book → Outcome (List ℕ)
report_outcome naming report book = no_event (report_answer naming report book)

-- the statement of the only period of books that were never closed
abbrev pub open_statement : Book → List ℕ
open_statement book =
    statement_text 1 None (rows_for book.rulings (open_period book).counted)

-- the disputes of books, where records are named by SHA-256
abbrev pub dispute_text : Book → List ℕ
dispute_text book = dispute_list_text (disputes_in sha256 book.rulings book.held)

-- what was made of an answer: a refusal stays one, and a lack of memory is one
pub record IsMadeOf {V T : Type 0} (makes : V → Result T AllocError → Type 0)
    (answer : Result V LedgerFault) (result : Result T LedgerFault) : Type 0 where
  pub refused : IfErr answer (λ fault. result ≡ Err fault)
  pub made :
      IfOk answer (λ value. MatchResult result (λ made. makes value (Ok made)) (λ fault. fault ≡ Memory))
