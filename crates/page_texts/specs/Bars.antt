-- Pictures: amounts as bars. A bar is as long as its amount is of the greatest one.
use Rattle.std.specs.Prelude.{ℕ, ◌+◌, ◌*◌, ◌/◌, ◌==◌, min, max, if◌then◌else◌}
use Rattle.std.specs.Prelude.{List, [], ◌∷◌, ◌++◌, codes, map}
use Rattle.std.specs.Fmt.{decimal}
use Rattle.std.specs.List.{concat, fold}
use Rattle.report_texts.specs.CentreAmounts.{cost_among}
use Rattle.report_texts.specs.Columns.{amount_text}
use Rattle.html_text.specs.Escaping.{escaped}
use Rattle.page_texts.specs.Markup.{table_row}

-- the width of a picture
abbrev pub picture_width : ℕ
picture_width = 10_000

-- how many centres have a colour of their own
abbrev pub most_colours : ℕ
most_colours = 8

-- the colour of the centre of an index: those after them share one, which is grey
abbrev pub colour_of : ℕ → ℕ
colour_of index = min index most_colours

-- the greatest amount of some things, 0 of none
abbrev pub greatest : {X : Type 0} → (X → ℕ) → List X → ℕ
greatest amount things = fold max 0 (map amount things)

-- how long an amount is where the greatest has the whole width, in whole numbers
unfoldable pub bar_length : ℕ → ℕ → ℕ
bar_length most amount = min picture_width (amount * picture_width / max 1 most)

-- a bar of a colour, from a place on, with a text that a pointer shows
unfoldable pub bar : ℕ → ℕ → ℕ → List ℕ → List ℕ
bar colour start long title =
    concat
    (codes "<rect class='c" ∷ decimal colour ∷ codes "' x='" ∷ decimal start ∷ codes "' width='"
    ∷ decimal long ∷ codes "' height='1'><title>" ∷ title ∷ codes "</title></rect>" ∷ [])

-- a picture of bars in one row, with a text for those who do not see it
unfoldable pub picture : List ℕ → List ℕ → List ℕ
picture label bars =
    concat
    (codes "<svg viewBox='0 0 10000 1' preserveAspectRatio='none' role='img' aria-label='"
    ∷ label ∷ codes "'>" ∷ bars ∷ codes "</svg>" ∷ [])

-- what is charged for something, in a line
unfoldable pub cost_title : List ℕ → ℕ → List ℕ
cost_title label amount = label ++ codes " " ++ amount_text amount

-- the picture of one bar, of the first colour, from the left on
unfoldable pub bar_picture : ℕ → List ℕ → ℕ → List ℕ
bar_picture long label amount =
    let title = cost_title label amount in picture title (bar 0 0 long title)

-- what an amount is charged for: its text, its bar and the amount
abbrev pub bar_cells : ℕ → List ℕ → ℕ → List (List ℕ)
bar_cells most label amount =
    label ∷ bar_picture (bar_length most amount) label amount ∷ amount_text amount ∷ []

-- the row of these
unfoldable pub bar_row : ℕ → List ℕ → ℕ → List ℕ
bar_row most label amount = table_row (bar_cells most label amount)

-- the bar of the centre of an index; one without cost has none
unfoldable pub centre_bar : ℕ → ℕ → ℕ → List ℕ → ℕ → List ℕ
centre_bar index start long centre amount =
    if amount == 0 then []
    else bar (colour_of index) start long (cost_title (escaped centre) amount)

-- the bars of centres, one after the other; the first centre has that index, and its bar that start
abbrev pub bars_from : ℕ → List (List ℕ × ℕ) → ℕ → ℕ → List (List ℕ) → List ℕ
bars_from most costs index start [] = []
bars_from most costs index start (centre ∷ centres) =
    let amount = cost_among costs centre in
    let long = bar_length most amount in
    centre_bar index start long centre amount
    ++ bars_from most costs (index + 1) (min picture_width (start + long)) centres
