-- The page of a bill, for a browser and for paper: whose it is and of which days, what is owed and booked,
-- the prices and the percents, and what the sums are made of; or, of the office, the sums of each centre.
use Rattle.std.specs.Prelude.{ℕ, nat_lt, if◌then◌else◌, ℤ, List, [], ◌++◌, codes, flat_map, length}
use Rattle.std.specs.Prelude.{Option, Some, None}
use Rattle.std.specs.Fmt.{decimal}
use Rattle.book_model.specs.declared.bill.HeldBack.{HeldBack}
use Rattle.book_model.specs.Words.{LetterheadSeen, day_text_of, letterhead_shown}
use Rattle.report_texts.specs.Columns.{amount_text}
use Rattle.html_text.specs.Escaping.{escaped}
use Rattle.page_texts.specs.Frame.{head_start}
use Rattle.page_texts.specs.Letterheads.{office_name}
use Rattle.bill_texts.specs.Sheets.{Fields, PartsSeen, SheetSeen, text_at}
use Rattle.bill_texts.specs.declared.part.Layout.{Layout}
use Rattle.bill_texts.specs.declared.part.Layout.TheVariants as laid
use Rattle.bill_pages.specs.declared.bill_head.PageHead.{PageHead}
use Rattle.bill_pages.specs.Grouped.{grouped}
use Rattle.bill_pages.specs.PageStyle.{bill_style, credit_style}
use Rattle.bill_pages.specs.SheetPages.{part_lines, parts_page, terms_page}

-- whose bill it is, and of which days
pub record HeadSeen : Type 0 where
  pub period : ℕ
  pub centre : Option (List ℕ)
  pub first : Option ℤ
  pub through : Option ℤ
  pub held : Option HeldBack
  pub letterhead : LetterheadSeen

abbrev pub head_shown : PageHead → HeadSeen
head_shown head = record {
  period = head.period;
  centre = head.centre;
  first = head.first;
  through = head.through;
  held = head.held;
  letterhead = letterhead_shown head.letterhead.now;
}

-- a centre after a mark, where one is named
abbrev pub centre_after : List ℕ → Option (List ℕ) → List ℕ
centre_after mark None = []
centre_after mark (Some centre) = mark ++ escaped centre

-- what a bill is called: the bill of an open period is a draft, so no number stands for two papers
abbrev pub bill_word : Option ℤ → List ℕ
bill_word None = codes "Draft of bill "
bill_word (Some day) = codes "Bill "

unfoldable pub bill_name : HeadSeen → List ℕ
bill_name head =
    bill_word head.through ++ decimal head.period ++ centre_after (codes "-") head.centre

-- what the paths of its texts end with
unfoldable pub bill_path : HeadSeen → List ℕ
bill_path head = decimal head.period ++ centre_after (codes "/") head.centre

-- what stands above the page's own text, with its name at the foot of each sheet
unfoldable pub page_start : List ℕ → Layout → List ℕ
page_start name sums =
    head_start ++ name ++ codes "</title>\n<style>\n" ++ bill_style ++ credit_style sums
    ++ codes "@page{@bottom-left{content:'" ++ name ++ codes "'}}\n</style>\n</head>\n<body>\n<main>\n"

-- whose bill it is
unfoldable pub centre_page : Option (List ℕ) → List ℕ
centre_page None = codes "All centres"
centre_page (Some centre) = escaped centre

-- its first day, if it has begun, and its last, or that it is open
unfoldable pub first_page : Option ℤ → List ℕ
first_page None = []
first_page (Some day) = codes " from " ++ day_text_of day

unfoldable pub state_page : Option ℤ → List ℕ
state_page None = codes "<b>open: this draft may still change</b>"
state_page (Some day) = codes "closed through " ++ day_text_of day

-- all of these
unfoldable pub head_page : List ℕ → HeadSeen → List ℕ
head_page name head =
    codes "<header>\n<p>" ++ office_name (codes "Chargeback") head.letterhead.office
    ++ codes "</p>\n<p>" ++ name
    ++ codes "</p>\n</header>\n<h1>" ++ centre_page head.centre ++ codes "</h1>\n<p>Period "
    ++ decimal head.period ++ first_page head.first ++ codes ", " ++ state_page head.through
    ++ codes "</p>\n"

-- a sum in the box, with its currency, if there is one
unfoldable pub currency_page : Option (List ℕ) → List ℕ
currency_page None = []
currency_page (Some currency) = codes " <small>" ++ escaped currency ++ codes "</small>"

unfoldable pub main_sum : List ℕ → List ℕ → Option (List ℕ) → List ℕ
main_sum word figure currency =
    codes "<div class='sum'><dt>" ++ word ++ codes "</dt><dd>" ++ grouped figure
    ++ currency_page currency ++ codes "</dd></div>\n"

unfoldable pub other_sum : List ℕ → List ℕ → List ℕ
other_sum word figure =
    codes "<div><dt>" ++ word ++ codes "</dt><dd>" ++ grouped figure ++ codes "</dd></div>\n"

-- what is credited, where the sums have a column of it
unfoldable pub credits_sum : Layout → Fields → List ℕ
credits_sum laid.CreditedSums row = other_sum (codes "Credits") (text_at row 6)
credits_sum layout row = []

-- the box: what is owed and booked, and of what
unfoldable pub box_start : Option (List ℕ) → Fields → List ℕ
box_start currency row =
    codes "<dl>\n" ++ main_sum (codes "Owed") (text_at row 4) currency
    ++ main_sum (codes "Booked") (text_at row 5) currency
    ++ other_sum (codes "Charged") (text_at row 1) ++ other_sum (codes "Late") (text_at row 2)
    ++ other_sum (codes "Reversed") (text_at row 3)

unfoldable pub sums_box : Option (List ℕ) → Layout → Fields → List ℕ
sums_box currency layout row =
    box_start currency row ++ credits_sum layout row ++ codes "</dl>\n"

-- of the sums of all centres, or of the one
abbrev pub box_of : Option (List ℕ) → Layout → List Fields → Option Fields → List ℕ
box_of currency layout rows None = flat_map (sums_box currency layout) rows
box_of currency layout rows (Some total) = sums_box currency layout total

-- what is held back in dispute
unfoldable pub held_page : Option HeldBack → List ℕ
held_page None = []
held_page (Some held) =
    codes "<p class='note'>Disputes: " ++ grouped (decimal held.disputes)
    ++ codes ". They hold back at least " ++ grouped (amount_text held.least)
    ++ codes " and at most " ++ grouped (amount_text held.greatest) ++ codes ".</p>\n"

-- how a row is worked out, where there are prices
unfoldable pub check_note : List ℕ
check_note =
    codes "<p class='note'>To check a row: (count &#215; price of a record + CPU seconds "
    ++ codes "&#215; price of a CPU second + blocks &#247; 1,000 &#215; price of 1,000 "
    ++ codes "blocks) &#215; percent &#247; 100, by the prices in force on its day. Each "
    ++ codes "record is rounded to 0.0001, so a row of n records may be off by "
    ++ codes "n&#160;&#215;&#160;0.00005.</p>\n"

abbrev pub check_page : SheetSeen → List ℕ
check_page sheet = if nat_lt 0 (length sheet.prices.rows) then check_note else []

-- the links to the page of the office and of the period, and to the bill's texts
unfoldable pub links_start : HeadSeen → List ℕ
links_start head =
    codes "<nav aria-label='Texts'>\n<a href='/'>office</a>\n<a href='/period/"
    ++ decimal head.period ++ codes "'>period " ++ decimal head.period ++ codes "</a>\n"

unfoldable pub centre_links : HeadSeen → List ℕ
centre_links head =
    codes "<a href='/bill/" ++ decimal head.period
    ++ codes "'>all centres</a>\n<a href='/details/" ++ bill_path head
    ++ codes "'>details</a>\n"

unfoldable pub links_end : HeadSeen → List ℕ
links_end head =
    codes "<a href='/bill-csv/" ++ bill_path head
    ++ codes "'>bill-csv</a>\n</nav>\n</main>\n</body>\n</html>\n"

-- what each page begins with
unfoldable pub bill_top : HeadSeen → SheetSeen → List ℕ
bill_top head sheet =
    page_start (bill_name head) sheet.sums.layout ++ head_page (bill_name head) head
    ++ box_of head.letterhead.currency sheet.sums.layout sheet.sums.rows sheet.sums.total
    ++ held_page head.held

-- the page of the office's bill
abbrev pub office_bill_page : HeadSeen → SheetSeen → List ℕ
office_bill_page head sheet =
    bill_top head sheet ++ part_lines (decimal head.period) sheet.sums
    ++ terms_page (decimal head.period) sheet ++ links_start head ++ links_end head

-- and that of a centre's
abbrev pub centre_bill_page : HeadSeen → SheetSeen → PartsSeen → List ℕ
centre_bill_page head sheet parts =
    bill_top head sheet ++ terms_page (decimal head.period) sheet ++ check_page sheet
    ++ parts_page (decimal head.period) parts ++ links_start head ++ centre_links head
    ++ links_end head
