-- The pictures of a period's page: its cost by day, and by centre.
use Rattle.std.specs.Prelude.{ℕ, ℤ, Bool, List, [], ◌∷◌, ◌++◌, codes, flat_map, map}
use Rattle.std.specs.Prelude.{if◌then◌else◌}
use Rattle.std.specs.List.{concat}
use Rattle.book_model.specs.Words.{Credit, day_text_of}
use Rattle.book_model.specs.declared.line.Line.{Line}
use Rattle.book_model.specs.declared.row.ChargeRow.{ChargeRow}
use Rattle.report_texts.specs.Charges.{centre_charges, centres_of, credits_text, owed_text}
use Rattle.report_texts.specs.Charges.{plain_credits}
use Rattle.report_texts.specs.Columns.{amount_text}
use Rattle.report_texts.specs.declared.charges.CentreCharges.{CentreCharges}
use Rattle.report_texts.specs.declared.charges.Charges.{Charges}
use Rattle.html_text.specs.Escaping.{escaped}
use Rattle.page_texts.specs.Bars.{bar_cells, bar_row, greatest}
use Rattle.page_texts.specs.Figures.{costs_by_day, figures_of, has_credits}
use Rattle.page_texts.specs.Frame.{table_end}
use Rattle.page_texts.specs.Markup.{cell}

-- what stands above the bars, under a caption and the heading of the first column
unfoldable pub bars_head : List ℕ → List ℕ → List ℕ
bars_head caption heading =
    concat
    (codes "<div class='scroll'>\n<table class='bars'>\n<caption>" ∷ caption
    ∷ codes "</caption>\n<thead><tr><th scope='col'>" ∷ heading
    ∷ codes "</th><th scope='col'>Cost</th><th scope='col'>Charged</th>" ∷ [])

-- where the headings of days end, and those of centres
unfoldable pub day_columns : List ℕ
day_columns = codes "</tr></thead>\n<tbody>"

-- with one of what is credited or without
unfoldable pub credits_column : Bool → List ℕ
credits_column credited = if credited then codes "<th scope='col'>Credits</th>" else []

unfoldable pub centre_columns : Bool → List ℕ
centre_columns credited =
    codes "<th scope='col'>Late</th><th scope='col'>Reversed</th>" ++ credits_column credited
    ++ codes "<th scope='col'>Owed</th></tr></thead>\n<tbody>"

-- the rows of days, by what each costs
abbrev pub day_rows : List (ℤ × ℕ) → List ℕ
day_rows costs =
    flat_map (λ cost. bar_row (greatest (λ one. one.1) costs) (day_text_of cost.0) cost.1) costs

-- what each centre is charged that has rows, lines or credits. Rows are not told apart here: all of them
-- stand as those of steps do on a bill.
abbrev pub charges_by_centre : List ChargeRow → List Line → List Credit → List CentreCharges
charges_by_centre rows lines credits =
    map (centre_charges rows [] lines (plain_credits credits))
    (centres_of rows [] lines (plain_credits credits))

-- the cell of what is credited, where there is a column of that
unfoldable pub credits_cell : Bool → Charges → List ℕ
credits_cell credited charges = if credited then cell (credits_text charges) else []

-- the row of a centre: what it is charged, as a bar too, what came late, what was reversed, what is
-- credited where there is a column of that, and what it owes or is owed
unfoldable pub centre_row : Bool → ℕ → CentreCharges → List ℕ
centre_row credited most cost =
    codes "<tr>" ++ flat_map cell (bar_cells most (escaped cost.centre) cost.charges.steps)
    ++ cell (amount_text cost.charges.late) ++ cell (amount_text cost.charges.reversed)
    ++ credits_cell credited cost.charges ++ cell (owed_text cost.charges) ++ codes "</tr>\n"

abbrev pub centre_rows : Bool → List CentreCharges → List ℕ
centre_rows credited costs =
    flat_map (centre_row credited (greatest (λ cost. cost.charges.steps) costs)) costs

-- the pictures of what days cost, and of what centres cost
unfoldable pub day_table : List (ℤ × ℕ) → List ℕ
day_table costs =
    bars_head (codes "Cost by day") (codes "Day") ++ day_columns ++ day_rows costs ++ table_end

unfoldable pub centre_table : Bool → List CentreCharges → List ℕ
centre_table credited costs =
    bars_head (codes "Cost by centre") (codes "Centre") ++ centre_columns credited
    ++ centre_rows credited costs ++ table_end

-- those of some rows, lines and credits: where some credit comes to something, there is a column of credits
unfoldable pub day_part : List ChargeRow → List ℕ
day_part rows = day_table (costs_by_day rows)

unfoldable pub centre_part : List ChargeRow → List Line → List Credit → List ℕ
centre_part rows lines credits =
    centre_table (has_credits (figures_of rows lines credits)) (charges_by_centre rows lines credits)
