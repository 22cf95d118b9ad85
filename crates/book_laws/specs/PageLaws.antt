-- The laws of pages: their amounts are those of the reports, and the period that they show as open is
-- the one that the books have open.
use Rattle.std.specs.Prelude.{◌≡◌, ℕ, ◌≤◌, List, [], ◌++◌, codes, Some, None, Result, Ok}
use Rattle.book_model.specs.declared.fault.LedgerFault.{LedgerFault}
use Rattle.book_model.specs.Words.{Book, Naming, Period, close_of, credits_in, lines_of, open_number}
use Rattle.book_model.specs.Words.{period_of, rows_for}
use Rattle.report_texts.specs.AdjustmentLists.{action_columns, signed_column}
use Rattle.report_texts.specs.Columns.{newline}
use Rattle.report_texts.specs.Figures.{period_open}
use Rattle.report_texts.specs.Statements.{key_columns, number_columns}
use Rattle.page_texts.specs.Figures.{FiguresSeen, figures_of}
use Rattle.page_texts.specs.OfficePage.{office_row}
use Rattle.page_texts.specs.PeriodHead.{period_head, period_title}
use Rattle.table_model.specs.Readable.{IsReadable}
use Rattle.book_reports.specs.BookTexts.{report_answer}
use Rattle.book_reports.specs.Pages.{letterhead_of_period}
use Rattle.book_reports.specs.declared.report.PeriodReport.TheVariants.{AdjustmentList, Statement}
use Rattle.book_reports.specs.declared.report.Report.TheVariants.{OfPeriod, OfficePage, PeriodPage}

-- a text is answered that ends with this one
abbrev pub EndsWith : List ℕ → Result (List ℕ) LedgerFault → Type 0
EndsWith last answer = (front : List ℕ) × (answer ≡ Ok (front ++ last))

-- a text is answered in which this one stands
abbrev pub HasPart : List ℕ → Result (List ℕ) LedgerFault → Type 0
HasPart part answer = (front : List ℕ) × (behind : List ℕ) × (answer ≡ Ok (front ++ part ++ behind))

-- the last line of a statement that charges so much for so many records
abbrev pub statement_end : FiguresSeen → ℕ → ℕ → List ℕ
statement_end figures cpu blocks =
    key_columns (codes "TOTAL") [] [] ++ number_columns figures.records cpu blocks figures.charged

-- the last line of adjustments that add and reverse so much
abbrev pub adjustments_end : FiguresSeen → List ℕ
adjustments_end figures =
    action_columns (codes "TOTAL") [] [] [] ++ signed_column figures.added figures.reversed ++ newline

-- The figures of a period: its statement and its adjustments end with them, its page begins with them,
-- and in the page of the office they are its row, where that has it.
pub record AreShown (naming : Naming) (book : Book) (number : ℕ) (figures : FiguresSeen) : Type 0
  where
    pub statement : (cpu : ℕ) × (blocks : ℕ)
        × EndsWith (statement_end figures cpu blocks)
        (report_answer naming (OfPeriod Statement number None) book)
    pub adjustments :
        EndsWith (adjustments_end figures)
        (report_answer naming (OfPeriod AdjustmentList number None) book)
    pub page : HasPart
        (period_head (letterhead_of_period number book).office (period_title number)
        (close_of number book.rulings.closes) figures)
        (report_answer naming (PeriodPage number) book)
    pub office : number ≤ period_open book
        → HasPart (office_row number (close_of number book.rulings.closes) figures)
        (report_answer naming OfficePage book)

-- In books that have a period the pages and the reports show the same sums of it: those of its charge rows,
-- of its adjustment lines and of its credits.
abbrev pub PageTotalsAreTheReports : Type 0
PageTotalsAreTheReports =
    (naming : Naming) (book : Book) (number : ℕ) (period : Period)
    → period_of book number ≡ Some period
    → AreShown naming book number
    (figures_of (rows_for book.rulings period.counted) (lines_of naming book.rulings period)
    (credits_in number book.rulings))

-- In books that can be read back the number of the open period, as dry runs and the page of the office
-- have it, is that of the books: there is no period above the last one.
abbrev pub OpenIsOpen : Type 0
OpenIsOpen =
    (naming : Naming) (book : Book) → IsReadable naming book → period_open book ≡ open_number book
