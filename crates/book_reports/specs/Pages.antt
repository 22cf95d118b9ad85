-- The pages of the office and of a period, as a book answers them: both show what its reports show.
use Rattle.std.specs.Prelude.{ℕ, List, map, None, Result, Ok}
use Rattle.std.specs.List.{range_with_len}
use Rattle.book_model.specs.declared.fault.LedgerFault.{LedgerFault}
use Rattle.book_model.specs.Words.{Book, Credit, LetterheadSeen, Naming, Outcome, credits_in}
use Rattle.book_model.specs.Words.{disputes_in, letterhead_among, no_event, tariffs_in}
use Rattle.page_texts.specs.Figures.{FiguresSeen, figures_of}
use Rattle.page_texts.specs.OfficePage.{office_page_text}
use Rattle.page_texts.specs.PeriodPage.{period_page_text}
use Rattle.report_texts.specs.Figures.{dispute_count, lines_in, period_open, rows_in}
use Rattle.coverage_texts.specs.declared.coverage_rows.CoverageRow.{CoverageRow}
use Rattle.book_lists.specs.Shown.{shown_by}
use Rattle.book_reports.specs.BillCredits.{credits_of}
use Rattle.book_reports.specs.Coverage.{coverage_rows_answer}

-- what the page of the office shows of a period
abbrev pub page_figures : Naming → ℕ → Book → FiguresSeen
page_figures naming period book =
    figures_of (rows_in period book) (lines_in naming period book) (credits_in period book.rulings)

-- the same where these are all credits of the book
abbrev pub figures_with : Naming → ℕ → List Credit → Book → FiguresSeen
figures_with naming period credits book =
    figures_of (rows_in period book) (lines_in naming period book) (credits_of period None credits)

abbrev pub figures_with_outcome : Naming → ℕ → List Credit → Book → Outcome FiguresSeen
figures_with_outcome naming period credits book =
    no_event (Ok (figures_with naming period credits book))

-- what it shows of so many periods, from the first one on
abbrev pub first_figures : Naming → ℕ → Book → List FiguresSeen
first_figures naming count book =
    map (λ period. page_figures naming period book) (range_with_len 1 count)

-- what the last tariff of a period says of the office
abbrev pub letterhead_of_period : ℕ → Book → LetterheadSeen
letterhead_of_period period book = letterhead_among (tariffs_in period book.rulings)

-- the page of the office: all periods, the open one among them
abbrev pub office_page : Naming → Book → List ℕ
office_page naming book =
    office_page_text (letterhead_of_period (period_open book) book) (dispute_count naming book)
    book.rulings.closes (first_figures naming (period_open book) book)

abbrev pub office_page_answer : Naming → Book → Result (List ℕ) LedgerFault
office_page_answer naming book = Ok (office_page naming book)

abbrev pub office_page_outcome : Naming → Book → Outcome (List ℕ)
office_page_outcome naming book = no_event (office_page_answer naming book)

-- the page of a period whose coverage these rows are
abbrev pub page_with : Naming → ℕ → Book → List CoverageRow → List ℕ
page_with naming period book coverage =
    period_page_text period (letterhead_of_period period book) book.rulings.closes
    (rows_in period book) (lines_in naming period book) (credits_in period book.rulings)
    (disputes_in naming book.rulings book.held) coverage

-- what a book answers to it: a period that is not there is refused, as its coverage is
abbrev pub period_page_answer : Naming → ℕ → Book → Result (List ℕ) LedgerFault
period_page_answer naming period book =
    shown_by (page_with naming period book) (coverage_rows_answer naming period book)

abbrev pub period_page_outcome : Naming → ℕ → Book → Outcome (List ℕ)
period_page_outcome naming period book = no_event (period_page_answer naming period book)
