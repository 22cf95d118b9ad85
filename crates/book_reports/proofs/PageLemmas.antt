-- Pages, whose parts are read from one book.
use Rattle.std.proofs.Common.{◌≡◌, ◌∙◌, ℕ, ◌+◌, ℤ, List, [], ◌∷◌, ◌++◌, length, map, ap, sym, arith}
use Rattle.std.proofs.Common.{None, Ok}
use Rattle.std.proofs.lemmas.List.FromFn.{map-range_with_len_more}
use Rattle.book_model.proofs.Std.{map-append}
use Rattle.book_model.specs.Words.{Book, Credit, Disputed, Naming, credits_in, disputes_outcome}
use Rattle.book_model.specs.Words.{letterhead_shown, periods_outcome}
use Rattle.page_texts.specs.declared.figures.PeriodFigures.{PeriodFigures}
use Rattle.page_texts.specs.Figures.{FiguresSeen}
use Rattle.report_texts.specs.Figures.{lines_in, period_open, rows_in}
use Rattle.book_reports.proofs.BillCreditLemmas.{credits_are}
use Rattle.book_reports.specs.BillCredits.{credits_of, credits_outcome, given_outcome}
use Rattle.book_reports.specs.Coverage.{coverage_rows_answer}
use Rattle.book_reports.proofs.Words.{Line, ChargeRow, figures_of, figures_seen, office_page_text}
use Rattle.book_reports.proofs.Words.{period_page_text, number_after, CoverageRow, shown_by}
use Rattle.book_reports.proofs.Words.{same_value, lines_outcome, dispute_count_outcome}
use Rattle.book_reports.proofs.Words.{tariffs_outcome, tariffs_shown}
use Rattle.book_reports.specs.BillTariffs.{TariffsBilled}
use Rattle.book_reports.specs.declared.bill_tariffs.KeptTariffs.{KeptTariffs}
use Rattle.book_reports.specs.Figures.{rows_outcome}
use Rattle.book_reports.specs.Pages.{figures_with, figures_with_outcome, first_figures}
use Rattle.book_reports.specs.Pages.{letterhead_of_period, office_page_outcome, page_figures}
use Rattle.book_reports.specs.Pages.{period_page_outcome}

-- a book that has these rows and lines in a period has these figures of it, where these are all credits
pub figures_known : (naming : Naming) (period : ℕ) (credits : List Credit) (rows : List ChargeRow)
    (lines : List Line) (figures : FiguresSeen) (book : Book)
    → figures ≡ figures_of rows lines (credits_of period None credits)
    → (rows_outcome period book).answer ≡ Ok rows → (lines_outcome naming period book).answer ≡ Ok lines
    → (figures_with_outcome naming period credits book).answer ≡ Ok figures
figures_known naming period credits rows lines figures book made has_rows has_lines =
    (λ i. Ok (figures_of (same_value has_rows i) (same_value has_lines i)
    (credits_of period None credits))) ∙ ap Ok (sym made)

-- a book that has these tariffs in a period has their letterhead
letterhead_known : (period : ℕ) (kept : KeptTariffs) (book : Book)
    → (tariffs_outcome period book).answer ≡ Ok (tariffs_shown kept)
    → letterhead_of_period period book ≡ letterhead_shown kept.letterhead
letterhead_known period kept book billed =
    ap (λ (told : TariffsBilled). told.letterhead) (same_value billed)

-- of a book: these are its closes and its credits, and these the figures of its first periods, so many
pub record KnowsPeriods (naming : Naming) (closes : List ℤ) (credits : List Credit) (count : ℕ)
    (periods : List PeriodFigures) (book : Book) : Type 0 where
  pub closed : (periods_outcome book).answer ≡ Ok closes
  pub credited : (given_outcome book).answer ≡ Ok credits
  pub figures : map figures_seen periods ≡ first_figures naming count book

module _ {naming : Naming} {closes : List ℤ} {credits : List Credit} {count : ℕ}
    {periods : List PeriodFigures} {book : Book}
    (it : KnowsPeriods naming closes credits count periods book)
  where
    -- the figures of a period by all credits are those of the book
    by_credits : (period : ℕ) → figures_with naming period credits book ≡ page_figures naming period book
    by_credits period =
        ap (λ (credits : List Credit). figures_with naming period credits book)
        (sym (same_value it.credited))
        ∙ ap (figures_of (rows_in period book) (lines_in naming period book))
        (credits_are period None book.rulings)

    -- one period more
    pub period_known : (figures : PeriodFigures) (more : List PeriodFigures)
        → (figures_with_outcome naming (count + 1) credits book).answer ≡ Ok (figures_seen figures)
        → more ≡ periods ++ figures ∷ [] → KnowsPeriods naming closes credits (count + 1) more book
    period_known figures more said pushed = record {
      closed = it.closed;
      credited = it.credited;
      figures =
          ap (map figures_seen) pushed
          ∙ map-append figures_seen periods (figures ∷ [])
          ∙ (λ i. it.figures i
          ++ (sym (same_value said) ∙ by_credits (count + 1)) i ∷ [])
          ∙ sym (map-range_with_len_more (λ period. page_figures naming period book) 1 count (count + 1)
          (omega arith));
    }

    -- these are all, and so the page is what a book answers that has these tariffs and disputes
    pub office_known : (open_number : ℕ) (kept : KeptTariffs) (disputes : ℕ) (page : List ℕ)
        → count ≡ open_number → open_number ≡ number_after (length closes)
        → (tariffs_outcome open_number book).answer ≡ Ok (tariffs_shown kept)
        → (dispute_count_outcome naming book).answer ≡ Ok disputes
        → page ≡ office_page_text (letterhead_shown kept.letterhead) disputes closes
        (map figures_seen periods)
        → (office_page_outcome naming book).answer ≡ Ok page
    office_known open_number kept disputes page all last billed counted made =
        let closed = same_value it.closed in
        let numbered : period_open book ≡ open_number =
        ap (λ (days : List ℤ). number_after (length days)) closed ∙ sym last in
        let shown = ap (λ count. first_figures naming count book) (numbered ∙ sym all)
        ∙ sym it.figures in
        let headed = ap (λ number. letterhead_of_period number book) numbered
        ∙ letterhead_known open_number kept book billed in
        let many = same_value counted in
        (λ i. Ok (office_page_text (headed i) (many i) (closed i) (shown i))) ∙ ap Ok (sym made)

-- the page of a period that has these tariffs, rows, lines, credits and disputes, and this coverage
pub page_known : (naming : Naming) (period : ℕ) (kept : KeptTariffs) (closes : List ℤ)
    (rows : List ChargeRow) (lines : List Line) (credits : List Credit) (disputes : List Disputed)
    (coverage : List CoverageRow) (page : List ℕ) (book : Book)
    → page ≡ period_page_text period (letterhead_shown kept.letterhead) closes rows lines credits
    disputes coverage
    → coverage_rows_answer naming period book ≡ Ok coverage
    → (rows_outcome period book).answer ≡ Ok rows
    → (lines_outcome naming period book).answer ≡ Ok lines
    → (credits_outcome period None book).answer ≡ Ok credits
    → (disputes_outcome naming book).answer ≡ Ok disputes
    → (periods_outcome book).answer ≡ Ok closes
    → (tariffs_outcome period book).answer ≡ Ok (tariffs_shown kept)
    → (period_page_outcome naming period book).answer ≡ Ok page
page_known naming period kept closes rows lines credits disputes coverage page book made covered
    charged lined credited disputed closed billed =
    let own : credits_in period book.rulings ≡ credits =
    sym (credits_are period None book.rulings) ∙ same_value credited in
    (λ i. shown_by (λ coverage. period_page_text period (letterhead_known period kept book billed i)
    (same_value closed i) (same_value charged i) (same_value lined i) (own i) (same_value disputed i)
    coverage) (covered i))
    ∙ ap Ok (sym made)
