-- The page of a period: its sums and its gaps, its cost by day and by centre, its statement, its
-- adjustments, and disputes.
use Rattle.std.specs.Prelude.{ℕ, ℤ, ◌-◌, List, ◌++◌}
use Rattle.book_model.specs.declared.line.Line.{Line}
use Rattle.book_model.specs.declared.row.ChargeRow.{ChargeRow}
use Rattle.book_model.specs.Words.{Credit, Disputed, LetterheadSeen, close_of}
use Rattle.coverage_texts.specs.declared.coverage_rows.CoverageRow.{CoverageRow}
use Rattle.page_texts.specs.Figures.{figures_of}
use Rattle.page_texts.specs.Frame.{page_start}
use Rattle.page_texts.specs.Letterheads.{currency_figure}
use Rattle.page_texts.specs.PeriodHead.{gaps_figure, period_foot, period_head, period_title}
use Rattle.page_texts.specs.PeriodPictures.{centre_part, day_part}
use Rattle.page_texts.specs.PeriodTables.{adjustment_part, dispute_part, statement_part}

-- the page of a period, by its number, what the last of its tariffs says of the office, the days that
-- periods were closed through, its charge rows, its adjustment lines, its credits, the disputes of the
-- office, and the rows of its coverage
abbrev pub period_page_text :
    ℕ → LetterheadSeen → List ℤ → List ChargeRow → List Line → List Credit → List Disputed
    → List CoverageRow → List ℕ
period_page_text period letterhead closes rows lines credits disputes coverage =
    page_start (period_title period)
    ++ period_head letterhead.office (period_title period) (close_of period closes)
    (figures_of rows lines credits)
    ++ currency_figure letterhead.currency ++ gaps_figure coverage
    ++ day_part rows ++ centre_part rows lines credits
    ++ statement_part rows ++ adjustment_part lines
    ++ dispute_part (close_of (period - 1) closes) (close_of period closes) disputes
    ++ period_foot period
