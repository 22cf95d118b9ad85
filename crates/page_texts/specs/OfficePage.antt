-- The page of the office: its periods, the open one first, and what each centre costs in each.
use Rattle.std.specs.Prelude.{ℕ, ◌+◌, ◌-◌, nat_le, ℤ, if◌then◌else◌, Option}
use Rattle.std.specs.Prelude.{List, [], ◌∷◌, ◌++◌, codes, flat_map, length, map, take}
use Rattle.std.specs.Fmt.{decimal}
use Rattle.std.specs.BTreeSet.{insert_key}
use Rattle.std.specs.List.{concat, fold}
use Rattle.book_model.specs.Words.{LetterheadSeen, by_bytes, close_of, members, set_of}
use Rattle.report_texts.specs.Columns.{amount_text}
use Rattle.report_texts.specs.Periods.{head_text}
use Rattle.html_text.specs.Escaping.{escaped}
use Rattle.page_texts.specs.Bars.{bars_from, colour_of, greatest, most_colours, picture}
use Rattle.page_texts.specs.Figures.{FiguresSeen, owed_text}
use Rattle.page_texts.specs.Frame.{page_start, table_end}
use Rattle.page_texts.specs.Letterheads.{currency_figure, office_name}
use Rattle.page_texts.specs.Markup.{bill_link, period_link, table_row}

-- the rows of periods, the last one first; so many come before the first of the list
abbrev pub last_first : (ℕ → FiguresSeen → List ℕ) → ℕ → List FiguresSeen → List ℕ
last_first row before [] = []
last_first row before (figures ∷ periods) =
    last_first row (before + 1) periods ++ row (before + 1) figures

-- the row of a period: its number, whether it is open, how many records it counts, and its amounts, of
-- which the last leads to its bill
unfoldable pub office_row : ℕ → Option ℤ → FiguresSeen → List ℕ
office_row period through figures =
    table_row
    (period_link period ∷ head_text through ∷ decimal figures.records
    ∷ amount_text figures.charged ∷ amount_text figures.added ∷ amount_text figures.reversed
    ∷ bill_link period (owed_text figures) ∷ [])

abbrev pub office_rows : List ℤ → List FiguresSeen → List ℕ
office_rows closes periods =
    last_first (λ period figures. office_row period (close_of period closes) figures) 0 periods

-- the centres that cost something in a period, and all of them, each once and in order
abbrev pub centres_in : FiguresSeen → List (List ℕ)
centres_in figures = map (λ cost. cost.0) figures.costs

abbrev pub all_centres : List FiguresSeen → List (List ℕ)
all_centres periods = members (set_of by_bytes (flat_map centres_in periods))

-- names in order, and then those of a period, each in its place
abbrev pub with_centres : List (List ℕ) → FiguresSeen → List (List ℕ)
with_centres names figures = fold (insert_key by_bytes) names (centres_in figures)

-- the picture of a period, with its text: what each of some centres costs in it
abbrev pub cost_picture : List ℕ → ℕ → List (List ℕ) → FiguresSeen → List ℕ
cost_picture label most centres figures =
    picture label (bars_from most figures.costs 0 0 centres)

-- the text of that picture
abbrev pub cost_label : ℕ → List ℕ
cost_label period = codes "Period " ++ decimal period ++ codes " by centre"

-- the row of a period: its number, its picture, and what its statement comes to
unfoldable pub cost_row : ℕ → List (List ℕ) → ℕ → FiguresSeen → List ℕ
cost_row most centres period figures =
    table_row
    (period_link period ∷ cost_picture (cost_label period) most centres figures
    ∷ amount_text figures.charged ∷ [])

abbrev pub cost_rows : ℕ → List (List ℕ) → List FiguresSeen → List ℕ
cost_rows most centres periods = last_first (cost_row most centres) 0 periods

-- the line of a centre in the legend
unfoldable pub legend_item : ℕ → List ℕ → List ℕ
legend_item index centre =
    concat
    (codes "<li class='c" ∷ decimal (colour_of index) ∷ codes "'>" ∷ escaped centre
    ∷ codes "</li>\n" ∷ [])

-- the lines of centres, of which the first has that index
abbrev pub legend_from : ℕ → List (List ℕ) → List ℕ
legend_from index [] = []
legend_from index (centre ∷ centres) =
    legend_item index centre ++ legend_from (index + 1) centres

-- how many of so many share the last colour, where there are such: these it does not name
unfoldable pub legend_rest : ℕ → List ℕ
legend_rest count =
    if nat_le count most_colours then []
    else concat
    (codes "<li class='c8'>and " ∷ decimal (count - most_colours) ∷ codes " more</li>\n" ∷ [])

-- which colour is whose
unfoldable pub legend : List (List ℕ) → List ℕ
legend centres =
    codes "<ul>\n" ++ legend_from 0 (take most_colours centres) ++ legend_rest (length centres)
    ++ codes "</ul>\n"

-- what stands above the tables: the office's name, the currency, and how many disputes are open
unfoldable pub office_head : LetterheadSeen → ℕ → List ℕ
office_head letterhead disputes =
    concat
    (codes "<header>\n<p>" ∷ office_name (codes "Chargeback") letterhead.office
    ∷ codes "</p>\n<h1>Office</h1>\n</header>\n<dl>\n" ∷ currency_figure letterhead.currency
    ∷ codes "<div><dt>Disputes</dt><dd>" ∷ decimal disputes ∷ codes "</dd></div>\n</dl>\n" ∷ [])

-- what stands above the rows of periods
unfoldable pub periods_head : List ℕ
periods_head =
    codes "<div class='scroll'>\n<table class='office'>\n<caption>Periods</caption>\n<thead><tr>"
    ++ codes "<th scope='col'>Period</th><th scope='col'>State</th><th scope='col'>Records</th>"
    ++ codes "<th scope='col'>Charged</th><th scope='col'>Added</th><th scope='col'>Reversed</th>"
    ++ codes "<th scope='col'>Owed</th></tr></thead>\n<tbody>"

-- what stands above the pictures
unfoldable pub cost_head : List ℕ
cost_head =
    codes "<div class='scroll'>\n<table class='bars'>\n<caption>Cost by centre</caption>\n<thead><tr>"
    ++ codes "<th scope='col'>Period</th><th scope='col'>Cost</th><th scope='col'>Charged</th>"
    ++ codes "</tr></thead>\n<tbody>"

-- the links to what is said of all periods, and the end of the page
unfoldable pub office_foot : List ℕ
office_foot =
    codes "<nav aria-label='Texts'>\n<a href='/periods'>periods</a>\n<a href='/rulings'>rulings</a>\n"
    ++ codes "<a href='/disputes'>disputes</a>\n<a href='/disputes-csv'>disputes-csv</a>\n</nav>\n"
    ++ codes "</main>\n</body>\n</html>\n"

-- the pictures of all periods, of some centres, and their legend
unfoldable pub cost_table : List (List ℕ) → List FiguresSeen → List ℕ
cost_table centres periods =
    let most = greatest (λ figures. figures.charged) periods in
    cost_head ++ cost_rows most centres periods ++ table_end ++ legend centres

-- the same, of all centres
unfoldable pub cost_part : List FiguresSeen → List ℕ
cost_part periods = cost_table (all_centres periods) periods

-- the page, by what the last tariff of the open period says of the office, how many disputes are open,
-- the days that periods were closed through, and the figures of all periods from 1 on, the open one last
abbrev pub office_page_text : LetterheadSeen → ℕ → List ℤ → List FiguresSeen → List ℕ
office_page_text letterhead disputes closes periods =
    page_start (codes "Office")
    ++ office_head letterhead disputes
    ++ periods_head ++ office_rows closes periods ++ table_end
    ++ cost_part periods ++ office_foot
