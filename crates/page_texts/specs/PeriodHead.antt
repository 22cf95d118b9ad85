-- The head of a period's page, and its foot with the links.
use Rattle.std.specs.Prelude.{ℕ, ℤ, List, [], ◌∷◌, ◌++◌, ◌==◌, codes, flat_map, length, Option}
use Rattle.std.specs.Prelude.{if◌then◌else◌}
use Rattle.std.specs.Fmt.{decimal}
use Rattle.std.specs.List.{concat}
use Rattle.report_texts.specs.Columns.{amount_text}
use Rattle.coverage_texts.specs.Coverage.{gaps}
use Rattle.coverage_texts.specs.declared.coverage_rows.CoverageRow.{CoverageRow}
use Rattle.report_texts.specs.Periods.{head_text}
use Rattle.page_texts.specs.Figures.{FiguresSeen, credits_text, has_credits, owed_text}
use Rattle.page_texts.specs.Letterheads.{office_name}

-- the title
unfoldable pub period_title : ℕ → List ℕ
period_title period = codes "Period " ++ decimal period

-- what is credited, where the period has credits
unfoldable pub credits_sum : FiguresSeen → List ℕ
credits_sum figures =
    codes "<div><dt>Credits</dt><dd>" ++ credits_text figures ++ codes "</dd></div>\n"

unfoldable pub credits_figure : FiguresSeen → List ℕ
credits_figure figures = if has_credits figures then credits_sum figures else []

-- the sums of the period
unfoldable pub period_sums : FiguresSeen → List ℕ
period_sums figures =
    concat
    (codes "<dl>\n<div><dt>Charged</dt><dd>" ∷ amount_text figures.charged
    ∷ codes "</dd></div>\n<div><dt>Added</dt><dd>" ∷ amount_text figures.added
    ∷ codes "</dd></div>\n<div><dt>Reversed</dt><dd>" ∷ amount_text figures.reversed
    ∷ codes "</dd></div>\n" ∷ credits_figure figures
    ∷ codes "<div><dt>Owed</dt><dd>" ∷ owed_text figures
    ∷ codes "</dd></div>\n" ∷ [])

-- what stands above the parts of the page: the office's name, under its title whether the period is
-- open, and its sums
unfoldable pub period_head : Option (List ℕ) → List ℕ → Option ℤ → FiguresSeen → List ℕ
period_head office title through figures =
    concat
    (codes "<header>\n<p><a href='/'>" ∷ office_name (codes "Office") office
    ∷ codes "</a></p>\n<h1>" ∷ title
    ∷ codes "</h1>\n<p>" ∷ head_text through
    ∷ codes "</p>\n</header>\n" ∷ period_sums figures ∷ [])

-- how many gaps a coverage has, where anything is counted
unfoldable pub gaps_text : List CoverageRow → List ℕ
gaps_text coverage =
    if length coverage == 0 then codes "No records" else decimal (length (gaps coverage))

-- what stands below the sums: the gaps
unfoldable pub gaps_figure : List CoverageRow → List ℕ
gaps_figure coverage =
    codes "<div><dt>Gaps</dt><dd>" ++ gaps_text coverage ++ codes "</dd></div>\n</dl>\n"

-- a link to a report on a period, by the report's path
unfoldable pub report_link : ℕ → List ℕ → List ℕ
report_link period path =
    concat
    (codes "<a href='/" ∷ path ∷ codes "/" ∷ decimal period ∷ codes "'>" ∷ path
    ∷ codes "</a>\n" ∷ [])

-- the reports on a period as texts and as comma-separated values
abbrev pub report_paths : List (List ℕ)
report_paths =
    codes "bill" ∷ codes "bill-csv" ∷ codes "statement" ∷ codes "statement-csv"
    ∷ codes "adjustments" ∷ codes "adjustments-csv" ∷ codes "details" ∷ codes "details-csv"
    ∷ codes "focus" ∷ codes "coverage" ∷ codes "coverage-csv" ∷ []

-- the links to them and back, and the end of the page
unfoldable pub period_foot : ℕ → List ℕ
period_foot period =
    codes "<nav aria-label='Texts'>\n<a href='/'>office</a>\n"
    ++ flat_map (report_link period) report_paths
    ++ codes "</nav>\n</main>\n</body>\n</html>\n"
