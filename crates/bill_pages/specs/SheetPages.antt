-- A sheet on a page: of a part its title, the words above its columns, a row for each of its rows, and one
-- for their sums. Its figures are those of the text, in thousands.
use Rattle.std.specs.Prelude.{ℕ, nat_lt, if◌then◌else◌, List, [], ◌++◌, codes, flat_map, length}
use Rattle.std.specs.Prelude.{Option, Some, None, bytes_eq}
use Rattle.html_text.specs.Escaping.{escaped}
use Rattle.bill_texts.specs.declared.column.Column.{Column}
use Rattle.bill_texts.specs.declared.column.Column.TheVariants.{Below, Figure, First, Number, Word}
use Rattle.bill_texts.specs.declared.part.Layout.{Layout}
use Rattle.bill_texts.specs.declared.part.Layout.TheVariants as laid
use Rattle.bill_texts.specs.declared.part.PartName.{PartName}
use Rattle.bill_texts.specs.declared.part.PartName.TheVariants as named
use Rattle.bill_texts.specs.Sheets.{Fields, PartSeen, PartsSeen, SheetSeen, columns_of, text_at}
use Rattle.bill_pages.specs.Grouped.{grouped}

-- a cell of what a page shows
unfoldable pub cell : List ℕ → List ℕ
cell shown = codes "<td>" ++ shown ++ codes "</td>"

-- what stands in a column but the first; what a text has on a line of its own a page has in a row of its own
unfoldable pub column_page : Fields → Column → List ℕ
column_page row (First place width) = []
column_page row (Word place width) = cell (escaped (text_at row place))
column_page row (Number place width) = cell (escaped (text_at row place))
column_page row (Figure place width) = cell (grouped (text_at row place))
column_page row (Below place) = []

-- a row, by what its first cell shows
unfoldable pub row_page : Layout → List ℕ → Fields → List ℕ
row_page layout first row =
    codes "<tr>" ++ cell first ++ flat_map (column_page row) (columns_of layout) ++ codes "</tr>\n"

-- of what a price is: of a step, or of a job
unfoldable pub price_kind : List ℕ → List ℕ
price_kind word = if bytes_eq word (codes "STEP") then codes "Step" else codes "Job"

-- the row of three prices
unfoldable pub price_page : Fields → List ℕ
price_page row =
    codes "<tr>" ++ cell (escaped (text_at row 0)) ++ cell (price_kind (text_at row 1))
    ++ cell (grouped (text_at row 2)) ++ cell (grouped (text_at row 3))
    ++ cell (grouped (text_at row 4)) ++ codes "</tr>\n"

-- a record, with its name below it, which stay together
unfoldable pub record_page : Fields → List ℕ
record_page row =
    codes "<tbody>\n" ++ row_page laid.Records (escaped (text_at row 0)) row
    ++ codes "<tr class='name'><td colspan='8'>" ++ escaped (text_at row 8)
    ++ codes "</td></tr>\n</tbody>\n"

-- what the first cell of a centre's sums shows: a link to its bill, of the period with this path
unfoldable pub centre_link : List ℕ → Fields → List ℕ
centre_link period row =
    codes "<a href='/bill/" ++ period ++ codes "/" ++ escaped (text_at row 0) ++ codes "'>"
    ++ escaped (text_at row 0) ++ codes "</a>"

-- a row of a part, on the page of a period
unfoldable pub line_page : List ℕ → Layout → Fields → List ℕ
line_page period laid.Sums row = row_page laid.Sums (centre_link period row) row
line_page period laid.CreditedSums row = row_page laid.CreditedSums (centre_link period row) row
line_page period laid.Prices row = price_page row
line_page period laid.Percents row = row_page laid.Percents (escaped (text_at row 0)) row
line_page period laid.Work row = row_page laid.Work (escaped (text_at row 0)) row
line_page period laid.Counts row = row_page laid.Counts (escaped (text_at row 0)) row
line_page period laid.Records row = record_page row
line_page period laid.Credits row = row_page laid.Credits (escaped (text_at row 0)) row

-- what stands before the rows of a part and behind them: each record has a body of its own
unfoldable pub body_start : Layout → List ℕ
body_start laid.Records = []
body_start layout = codes "<tbody>\n"

unfoldable pub body_end : Layout → List ℕ
body_end laid.Records = []
body_end layout = codes "</tbody>\n"

-- the row of their sums, where there is one
unfoldable pub total_row : Layout → Fields → List ℕ
total_row layout row =
    codes "<tfoot>\n" ++ row_page layout (codes "Total") row ++ codes "</tfoot>\n"

unfoldable pub total_page : Layout → Option Fields → List ℕ
total_page layout None = []
total_page layout (Some row) = total_row layout row

-- the beginning of a table
unfoldable pub table_start : Layout → List ℕ
table_start laid.Sums =
    codes "<table class='rows centres'>\n<thead>\n<tr class='title'>"
    ++ codes "<th colspan='6' scope='colgroup'>"
table_start laid.CreditedSums =
    codes "<table class='rows centres credited'>\n<thead>\n<tr class='title'>"
    ++ codes "<th colspan='7' scope='colgroup'>"
table_start laid.Prices =
    codes "<table class='prices'>\n<thead>\n<tr class='title'>"
    ++ codes "<th colspan='5' scope='colgroup'>"
table_start laid.Percents =
    codes "<table class='shifts'>\n<thead>\n<tr class='title'>"
    ++ codes "<th colspan='3' scope='colgroup'>"
table_start laid.Work =
    codes "<table class='rows work'>\n<thead>\n<tr class='title'>"
    ++ codes "<th colspan='7' scope='colgroup'>"
table_start laid.Counts =
    codes "<table class='rows work'>\n<thead>\n<tr class='title'>"
    ++ codes "<th colspan='7' scope='colgroup'>"
table_start laid.Records =
    codes "<table class='rows records'>\n<thead>\n<tr class='title'>"
    ++ codes "<th colspan='8' scope='colgroup'>"
table_start laid.Credits =
    codes "<table class='rows credits'>\n<thead>\n<tr class='title'>"
    ++ codes "<th colspan='2' scope='colgroup'>"

-- its title
unfoldable pub page_title : PartName → List ℕ
page_title named.Sums = codes "Centres"
page_title named.Prices = codes "Prices"
page_title named.Percents = codes "Percents"
page_title named.StepsByShift = codes "Steps by shift"
page_title named.JobsByShift = codes "Jobs by shift"
page_title named.StepsByDay = codes "Steps by day"
page_title named.JobsByDay = codes "Jobs by day"
page_title named.Late = codes "Late"
page_title named.Reversed = codes "Reversed"
page_title named.Credits = codes "Credits"

-- the word above its first column
unfoldable pub first_heading : PartName → List ℕ
first_heading named.Sums = codes "Centre"
first_heading named.Prices = codes "From"
first_heading named.Percents = codes "From"
first_heading named.StepsByShift = codes "Tariff"
first_heading named.JobsByShift = codes "Tariff"
first_heading named.StepsByDay = codes "Day"
first_heading named.JobsByDay = codes "Day"
first_heading named.Late = codes "Day"
first_heading named.Reversed = codes "Day"
first_heading named.Credits = codes "Reason"

-- the words above the others
unfoldable pub other_headings : Layout → List ℕ
other_headings laid.Sums =
    codes "</th><th scope='col'>Charged</th><th scope='col'>Late</th>"
    ++ codes "<th scope='col'>Reversed</th><th scope='col'>Owed</th><th scope='col'>"
    ++ codes "Booked</th></tr>\n</thead>\n"
other_headings laid.CreditedSums =
    codes "</th><th scope='col'>Charged</th><th scope='col'>Late</th>"
    ++ codes "<th scope='col'>Reversed</th><th scope='col'>Credits</th>"
    ++ codes "<th scope='col'>Owed</th><th scope='col'>Booked</th></tr>\n</thead>\n"
other_headings laid.Prices =
    codes "</th><th scope='col'>For a</th><th scope='col'>Record</th>"
    ++ codes "<th scope='col'>CPU second</th><th scope='col'>1,000 blocks</th></tr>"
    ++ codes "\n</thead>\n"
other_headings laid.Percents =
    codes "</th><th scope='col'>Shift</th><th scope='col'>Percent</th></tr>"
    ++ codes "\n</thead>\n"
other_headings laid.Work =
    codes "</th><th scope='col'>Shift</th><th scope='col'>Percent</th>"
    ++ codes "<th scope='col'>Count</th><th scope='col'>CPU seconds</th>"
    ++ codes "<th scope='col'>Blocks</th><th scope='col'>Amount</th></tr>\n</thead>\n"
other_headings laid.Counts =
    codes "</th><th scope='col'>Shift</th><th scope='col'>Percent</th>"
    ++ codes "<th scope='col'>Count</th><th scope='col'></th><th scope='col'></th>"
    ++ codes "<th scope='col'>Amount</th></tr>\n</thead>\n"
other_headings laid.Records =
    codes "</th><th scope='col'>Shift</th><th scope='col'>Job</th><th scope='col'>"
    ++ codes "Program</th><th scope='col'>Job id</th><th scope='col'>Step</th>"
    ++ codes "<th scope='col'>Of period</th><th scope='col'>Amount</th></tr>\n</thead>\n"
other_headings laid.Credits =
    codes "</th><th scope='col'>Amount</th></tr>\n</thead>\n"

-- all that stands above its rows
unfoldable pub part_head : PartSeen → List ℕ
part_head part =
    table_start part.layout ++ page_title part.name
    ++ codes "</th></tr>\n<tr><th scope='col'>" ++ first_heading part.name
    ++ other_headings part.layout

-- a part, on the page of a period
unfoldable pub part_lines : List ℕ → PartSeen → List ℕ
part_lines period part =
    part_head part ++ body_start part.layout ++ flat_map (line_page period part.layout) part.rows
    ++ body_end part.layout ++ total_page part.layout part.total ++ codes "</table>\n"

-- one without a row is left out
unfoldable pub part_page : List ℕ → PartSeen → List ℕ
part_page period part = if nat_lt 0 (length part.rows) then part_lines period part else []

-- the prices and the percents, side by side, where there are prices
unfoldable pub both_terms : List ℕ → SheetSeen → List ℕ
both_terms period sheet =
    codes "<div class='both'>\n" ++ part_page period sheet.prices
    ++ part_page period sheet.percents ++ codes "</div>\n"

unfoldable pub terms_page : List ℕ → SheetSeen → List ℕ
terms_page period sheet =
    if nat_lt 0 (length sheet.prices.rows) then both_terms period sheet else []

-- what the sums of a centre are made of
unfoldable pub parts_page : List ℕ → PartsSeen → List ℕ
parts_page period parts =
    part_page period parts.steps_by_shift ++ part_page period parts.jobs_by_shift
    ++ part_page period parts.steps_by_day ++ part_page period parts.jobs_by_day
    ++ part_page period parts.late ++ part_page period parts.reversed
    ++ part_page period parts.credits
