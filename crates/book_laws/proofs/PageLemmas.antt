-- The sums of a period, in its reports and in pages, and the number of the open one.
use Rattle.std.proofs.Common.{◌≡◌, ◌∙◌, ℕ, suc, zero, ◌+◌, ◌-◌, ◌<◌, ◌≤◌, Bool, true, false, List}
use Rattle.std.proofs.Common.{[], ◌∷◌, ◌++◌, append-nil, append_assoc, codes, get_or, length, Some}
use Rattle.std.proofs.Common.{None, Ok, ap, arith, refl, sym, lt-ltb, ok_or, option_map, ◌==◌, cond}
use Rattle.std.proofs.Common.{flat_map, map, slice_get, sum_by}
use Rattle.std.proofs.lemmas.List.FromFn.{get_or-map-range_with_len, length-map-range_with_len}
use Rattle.book_model.proofs.Std.{nat_tests, option_map_or}
use Rattle.book_model.specs.Words.{Book, Credit, Naming, Period, credits_in, details_of, disputes_in}
use Rattle.book_model.specs.Words.{lines_of, open_by}
use Rattle.book_model.specs.Words.{open_period, close_of, last_period, period_of, rows_for}
use Rattle.report_texts.specs.AdjustmentLists.{adjustment_line, adjustment_list_text, sum_line}
use Rattle.report_texts.specs.Figures.{dispute_count, period_open}
use Rattle.coverage_texts.specs.declared.coverage_rows.CoverageRow.{CoverageRow}
use Rattle.report_texts.specs.Periods.{title_line}
use Rattle.report_texts.specs.Statements.{heading, row_line, statement_text, total_line}
use Rattle.page_texts.specs.Figures.{FiguresSeen, figures_of}
use Rattle.page_texts.specs.Frame.{page_start, table_end}
use Rattle.page_texts.specs.Letterheads.{currency_figure}
use Rattle.page_texts.specs.OfficePage.{cost_part, last_first, office_foot, office_head, office_row}
use Rattle.page_texts.specs.OfficePage.{office_rows, periods_head}
use Rattle.page_texts.specs.PeriodHead.{gaps_figure, period_foot, period_head, period_title}
use Rattle.page_texts.specs.PeriodPage.{period_page_text}
use Rattle.page_texts.specs.PeriodPictures.{centre_part, day_part}
use Rattle.page_texts.specs.PeriodTables.{adjustment_part, dispute_part, statement_part}
use Rattle.book_reports.specs.BookTexts.{closed_through, report_answer, shown_by}
use Rattle.book_reports.specs.Coverage.{closes_around, rows_by}
use Rattle.book_reports.specs.Pages.{first_figures, letterhead_of_period, page_figures}
use Rattle.book_reports.specs.SystemDetails.{on_system}
use Rattle.book_reports.specs.declared.report.PeriodReport.TheVariants.{AdjustmentList}
use Rattle.book_reports.specs.declared.report.Report.TheVariants.{OfPeriod, OfficePage, PeriodPage}
use Rattle.book_laws.specs.CoverageLaws.{coverage_in}
use Rattle.book_laws.specs.PageLaws.{EndsWith, HasPart, OpenIsOpen, PageTotalsAreTheReports}
use Rattle.book_laws.specs.PageLaws.{adjustments_end, statement_end}
use Rattle.book_laws.proofs.Words.{NoSuchPeriod, Line, ChargeRow, Statement}

-- the row of each period stands among those of the office's page, the last one first
row_stands : (row : ℕ → FiguresSeen → List ℕ) (before : ℕ) (periods : List FiguresSeen) (i number : ℕ)
    (other : FiguresSeen) → before + i + 1 ≡ number → i < length periods
    → (front : List ℕ) × (behind : List ℕ)
    × (last_first row before periods ≡ front ++ row number (get_or periods i other) ++ behind)
row_stands row before [] i number other is inside = absurd (omega (arith, inside))
row_stands row before (figures ∷ later) zero number other is inside =
    let same : before + 1 ≡ number = omega (arith, is) in
    let front = last_first row (before + 1) later in (
      front,
      [],
      ap (λ number. front ++ row number figures) same
          ∙ sym (append-nil (front ++ row number figures)),
    )
row_stands row before (figures ∷ later) (suc i) number other is inside =
    let found = row_stands row (before + 1) later i number other (omega (arith, is)) (omega (arith, inside)) in
    let own = row number (get_or later i other) in
    let last = row (before + 1) figures in (
      found.0,
      found.1 ++ last,
      ap (λ rows. rows ++ last) found.2 ∙ append_assoc (found.0 ++ own) found.1 last,
    )

-- texts that stand one after the other, with all before a part and all behind it together
page_parts : (start head money gaps days centres rows lines disputes foot : List ℕ)
    → start ++ head ++ money ++ gaps ++ days ++ centres ++ rows ++ lines ++ disputes ++ foot
    ≡ start ++ head ++ (money ++ gaps ++ days ++ centres ++ rows ++ lines ++ disputes ++ foot)
page_parts start head money gaps days centres rows lines disputes foot = simp append_assoc

office_parts : (start head front own behind last costs foot : List ℕ)
    → start ++ head ++ (front ++ own ++ behind) ++ last ++ costs ++ foot
    ≡ start ++ head ++ front ++ own ++ (behind ++ (last ++ costs ++ foot))
office_parts start head front own behind last costs foot = simp append_assoc

module _ (naming : Naming) (book : Book) (number : ℕ) (period : Period)
    (is : period_of book number ≡ Some period)
  where
    abbrev its_rows : List ChargeRow
    its_rows = rows_for book.rulings period.counted

    abbrev its_lines : List Line
    its_lines = lines_of naming book.rulings period

    abbrev its_credits : List Credit
    its_credits = credits_in number book.rulings

    abbrev its_figures : FiguresSeen
    its_figures = figures_of its_rows its_lines its_credits

    abbrev its_coverage : List CoverageRow
    its_coverage = coverage_in naming book number period

    -- the first number is 1
    number_counts : 0 < number
    number_counts = by (number == 0) refl is
      where
        by : (none : Bool) → (number == 0) ≡ none
            → cond none None (cond (number == open_by book.rulings) (Some (open_period book))
            (slice_get book.past (number - 1))) ≡ Some period
            → 0 < number
        by true e found = cc found
        by false e found = grind (arith, nat_tests)

    statement_ends : (cpu : ℕ) × (blocks : ℕ) × EndsWith (statement_end its_figures cpu blocks)
        (report_answer naming (OfPeriod Statement number None) book)
    statement_ends =
        let through = closed_through book number in
        let title = title_line (codes "STATEMENT") number through in
        let rows = flat_map row_line its_rows in (
          sum_by (λ row. row.cpu) its_rows,
          sum_by (λ row. row.blocks) its_rows,
          (
            title ++ (heading ++ rows),
            ap (λ found. shown_by (statement_text number through)
                (ok_or (option_map (λ (period : Period). rows_for book.rulings period.counted) found)
                NoSuchPeriod)) is
                ∙ ap Ok (sym (append_assoc title (heading ++ rows) (total_line its_rows))),
          ),
        )

    adjustments_end_so : EndsWith (adjustments_end its_figures)
        (report_answer naming (OfPeriod AdjustmentList number None) book)
    unfolding sum_line
    adjustments_end_so =
        let through = closed_through book number in (
          title_line (codes "ADJUSTMENTS") number through ++ flat_map adjustment_line its_lines,
          ap (λ found. shown_by (adjustment_list_text number through)
              (ok_or (option_map (lines_of naming book.rulings) found) NoSuchPeriod)) is,
        )

    page_begins : HasPart
        (period_head (letterhead_of_period number book).office (period_title number)
        (close_of number book.rulings.closes) its_figures)
        (report_answer naming (PeriodPage number) book)
    page_begins =
        let letterhead = letterhead_of_period number book in
        let closes = book.rulings.closes in
        let disputes = disputes_in naming book.rulings book.held in (
          page_start (period_title number),
          currency_figure letterhead.currency ++ gaps_figure its_coverage ++ day_part its_rows
              ++ centre_part its_rows its_lines its_credits ++ statement_part its_rows
              ++ adjustment_part its_lines ++ dispute_part (close_of (number - 1) closes) (close_of number closes) disputes
              ++ period_foot number,
          (λ i. shown_by (λ coverage. period_page_text number letterhead closes
              (option_map_or (λ (period : Period). rows_for book.rulings period.counted) (is i) [])
              (option_map_or (lines_of naming book.rulings) (is i) []) its_credits disputes coverage)
              (shown_by (rows_by (closes_around number book)) (shown_by (map (on_system naming book))
              (ok_or (option_map (λ (period : Period). details_of naming book.rulings period) (is i))
              NoSuchPeriod))))
              ∙ ap Ok (page_parts (page_start (period_title number))
              (period_head letterhead.office (period_title number) (close_of number closes)
              its_figures)
              (currency_figure letterhead.currency) (gaps_figure its_coverage) (day_part its_rows)
              (centre_part its_rows its_lines its_credits) (statement_part its_rows)
              (adjustment_part its_lines)
              (dispute_part (close_of (number - 1) closes) (close_of number closes) disputes)
              (period_foot number)),
        )

    office_has : number ≤ period_open book
        → HasPart (office_row number (close_of number book.rulings.closes) its_figures)
        (report_answer naming OfficePage book)
    office_has within =
        let closes = book.rulings.closes in
        let count = period_open book in
        let place = number - 1 in
        let counts = number_counts in
        let figures_at : ℕ → FiguresSeen = λ period. page_figures naming period book in
        let periods = first_figures naming count book in
        let long : length periods ≡ count = length-map-range_with_len figures_at 1 count in
        let inside : place < count = omega (arith, counts, within) in
        let row : ℕ → FiguresSeen → List ℕ =
        λ period figures. office_row period (close_of period closes) figures in
        let found = row_stands row 0 periods place number its_figures (omega (arith, counts))
        (omega (arith, inside, long)) in
        let shown : get_or periods place its_figures ≡ its_figures =
        get_or-map-range_with_len figures_at 1 count place number its_figures inside (omega (arith, counts))
        ∙ (λ i. figures_of
        (option_map_or (λ (period : Period). rows_for book.rulings period.counted) (is i) [])
        (option_map_or (lines_of naming book.rulings) (is i) []) its_credits) in
        let start = page_start (codes "Office")
        ++ office_head (letterhead_of_period count book) (dispute_count naming book) in
        let costs = cost_part periods in
        let own = row number its_figures in
        let all : office_rows closes periods ≡ found.0 ++ own ++ found.1 =
        found.2 ∙ (λ i. found.0 ++ row number (shown i) ++ found.1) in (
          start ++ periods_head ++ found.0,
          found.1 ++ (table_end ++ costs ++ office_foot),
          ap Ok (ap (λ rows. start ++ periods_head ++ rows ++ table_end ++ costs ++ office_foot) all
              ∙ office_parts start periods_head found.0 own found.1 table_end costs office_foot),
        )

-- the law
pub page_totals_are_the_reports : PageTotalsAreTheReports
page_totals_are_the_reports naming book number period is = record {
  statement = statement_ends naming book number period is;
  adjustments = adjustments_end_so naming book number period is;
  page = page_begins naming book number period is;
  office = office_has naming book number period is;
}

-- the law
pub open_is_open : OpenIsOpen
open_is_open naming book readable =
    let closed : ℕ = length book.rulings.closes in
    ap (λ more. cond more (closed + 1) last_period)
    (lt-ltb closed last_period readable.limits.closes)
