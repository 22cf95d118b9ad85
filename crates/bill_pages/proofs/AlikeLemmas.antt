-- Each row of a bill stands in its text and on its page, and its figures are the same but for commas.
use Rattle.std.proofs.Common.{◌≡◌, ◌∙◌, ◌<◌, ◌≤◌, ◌-◌, ◌==◌, ◌&&◌, ◌||◌, ℕ, Bool, true, false, not}
use Rattle.std.proofs.Common.{List, [], ◌∷◌, ◌++◌, Some, ap, append-nil, arith, codes, cond, decimal}
use Rattle.std.proofs.Common.{Contains, None, Option, if◌then◌else◌, length, lt-ltb, nat_le, nat_lt, refl}
use Rattle.std.proofs.Common.{subst, sym, ℤ}
use Rattle.std.specs.Str.{byte}
use Rattle.book_model.proofs.Std.{and_parts, list_all, nat_tests}
use Rattle.book_model.specs.Words.{BillSeen}
use Rattle.book_model.specs.declared.bill.HeldBack.{HeldBack}
use Rattle.html_text.specs.Escaping.{escape_byte}
use Rattle.report_texts.specs.Centres.{centre_title}
use Rattle.report_texts.specs.Periods.{title_line}
use Rattle.bill_texts.specs.BillSheets.{centre_parts, centre_sheet, office_sheet}
use Rattle.bill_texts.specs.BillTexts.{bill_text, head_lines, office_bill_text, sheet_lines}
use Rattle.bill_texts.specs.SheetTexts.{parts_text, row_text}
use Rattle.bill_texts.specs.Sheets.{Fields, PartSeen, PartsSeen, SheetSeen}
use Rattle.bill_pages.specs.BillPages.{HeadSeen, bill_top, centre_bill_page, centre_links, check_page}
use Rattle.bill_pages.specs.BillPages.{links_end, links_start, office_bill_page, sums_box}
use Rattle.bill_pages.specs.Grouped.{digit, grouped, has_comma, in_thousands, whole_length}
use Rattle.bill_pages.specs.SheetPages.{line_page, part_lines, parts_page, terms_page}
use Rattle.bill_pages.specs.ShownAlike.{SheetsAreShownAlike, StandsIn, is_figure_byte, is_kept}
use Rattle.bill_pages.specs.ShownAlike.{parts_in, parts_on, terms_in, without_commas}
use Rattle.bill_pages.proofs.PageRows.{in_pages, in_part_lines, in_terms_page, in_top}
use Rattle.bill_pages.proofs.StandLemmas.{behind_five, behind_six, behind_three, behind_two}
use Rattle.bill_pages.proofs.StandLemmas.{stands_twice}
use Rattle.bill_pages.proofs.TextRows.{in_sheet_lines, in_texts}

-- a digit, a sign and a point lie between these
above_comma : (b : ℕ) → (((nat_le 48 b && nat_le b 57) || (b == 45)) || (b == 46)) ≡ true → 44 < b
above_comma b is = grind (arith, nat_tests)

below_less : (b : ℕ) → (((nat_le 48 b && nat_le b 57) || (b == 45)) || (b == 46)) ≡ true → b < 60
below_less b is = grind (arith, nat_tests)

low : (b : ℕ) → is_figure_byte b ≡ true → 44 < b
low b is = above_comma b is

high : (b : ℕ) → is_figure_byte b ≡ true → b < 60
high b is = below_less b is

-- so it is none of those below or above
not_below : (b other : ℕ) → 44 < b → other ≤ 44 → (b == other) ≡ false
not_below b other above small = grind (arith, nat_tests)

not_above : (b other : ℕ) → b < 60 → 60 ≤ other → (b == other) ≡ false
not_above b other below large = grind (arith, nat_tests)

-- and a page shows it as it is
plain_byte : (b : ℕ) → is_figure_byte b ≡ true → escape_byte b ≡ b ∷ []
plain_byte b is =
    let no_ampersand : (b == byte "&") ≡ false = not_below b 38 (low b is) (omega arith) in
    let no_less : (b == byte "<") ≡ false = not_above b 60 (high b is) (omega arith) in
    let no_more : (b == byte ">") ≡ false = not_above b 62 (high b is) (omega arith) in
    let no_quote : (b == byte "\"") ≡ false = not_below b 34 (low b is) (omega arith) in
    let no_apostrophe : (b == byte "'") ≡ false = not_below b 39 (low b is) (omega arith) in
    let small : b < 60 = high b is in
    let ascii : nat_lt b 128 ≡ true = lt-ltb b 128 (omega arith) in
    λ i.
    if no_ampersand i then codes "&amp;"
    else if no_less i then codes "&lt;"
    else if no_more i then codes "&gt;"
    else if no_quote i then codes "&quot;"
    else if no_apostrophe i then codes "&#39;"
    else if ascii i then b ∷ []
    else codes "?"

-- with the comma that may follow it, it is left alone
kept_byte : (b : ℕ) → is_figure_byte b ≡ true → is_kept b ≡ true
kept_byte b is = ap not (not_below b 44 (low b is) (omega arith))

one_byte : (b : ℕ) (comma : Bool) (more text : List ℕ) → is_figure_byte b ≡ true
    → without_commas more ≡ text
    → without_commas ((if comma then escape_byte b ++ codes "," else escape_byte b) ++ more)
    ≡ b ∷ text
one_byte b comma more text is rest =
    ap (λ shown. without_commas ((if comma then shown ++ codes "," else shown) ++ more))
    (plain_byte b is)
    ∙ by comma
    ∙ (λ i. cond (kept_byte b is i) (b ∷ without_commas more) (without_commas more))
    ∙ ap (λ left. b ∷ left) rest
  where
    by : (comma : Bool)
        → without_commas ((if comma then (b ∷ []) ++ codes "," else b ∷ []) ++ more)
        ≡ cond (is_kept b) (b ∷ without_commas more) (without_commas more)
    by true = refl
    by false = refl

-- so what is left of a figure is the figure
left_of : (whole : ℕ) (text : List ℕ) → list_all is_figure_byte text ≡ true
    → without_commas (in_thousands whole text) ≡ text
unfolding digit
left_of whole [] all = refl
left_of whole (b ∷ rest) all =
    let parts = and_parts (is_figure_byte b) (list_all is_figure_byte rest) all in
    one_byte b (has_comma (whole - 1) b) (in_thousands (whole - 1) rest) rest parts.0
    (left_of (whole - 1) rest parts.1)

figures : (figure : List ℕ) → list_all is_figure_byte figure ≡ true
    → without_commas (grouped figure) ≡ figure
unfolding grouped
figures figure all = left_of (whole_length figure) figure all

-- what stands on the sheet of a bill stands in its text
in_sheet : (part : List ℕ) (front behind : List ℕ) (sheet : SheetSeen) (held : Option HeldBack)
    → StandsIn part (sheet_lines sheet held)
    → StandsIn part (front ++ sheet_lines sheet held ++ behind)
in_sheet part front behind sheet held stands =
    stands_twice part (sheet_lines sheet held) (front ++ sheet_lines sheet held ++ behind) stands
    (record { front = front; behind = behind; is = refl })

-- the laws of texts
parts_in_text : (centre : List ℕ) (period : ℕ) (through : Option ℤ) (bill : BillSeen)
    (part : PartSeen) (row : Fields) → Contains (parts_in (centre_parts bill)) part
    → Contains part.rows row
    → StandsIn (row_text part.layout row) (bill_text centre period through bill)
parts_in_text centre period through bill part row among its =
    let front : List ℕ = title_line (centre_title (codes "BILL") centre) period through
    ++ head_lines period (Some centre) through bill
    ++ sheet_lines (centre_sheet centre bill) bill.held_back in
    stands_twice (row_text part.layout row) (parts_text (centre_parts bill))
    (front ++ parts_text (centre_parts bill)) (in_texts (centre_parts bill) part row among its)
    (record {
      front = front;
      behind = [];
      is = sym (append-nil (front ++ parts_text (centre_parts bill)));
    })

sheet_in_text : (centre : List ℕ) (period : ℕ) (through : Option ℤ) (bill : BillSeen)
    (part : PartSeen) (row : Fields) → Contains (parts_on (centre_sheet centre bill)) part
    → Contains part.rows row
    → StandsIn (row_text part.layout row) (bill_text centre period through bill)
sheet_in_text centre period through bill part row among its =
    in_sheet (row_text part.layout row)
    (title_line (centre_title (codes "BILL") centre) period through
    ++ head_lines period (Some centre) through bill) (parts_text (centre_parts bill))
    (centre_sheet centre bill) bill.held_back
    (in_sheet_lines (centre_sheet centre bill) bill.held_back part row among its)

office_in_text : (period : ℕ) (through : Option ℤ) (bill : BillSeen) (part : PartSeen)
    (row : Fields) → Contains (parts_on (office_sheet bill)) part → Contains part.rows row
    → StandsIn (row_text part.layout row) (office_bill_text period through bill)
office_in_text period through bill part row among its =
    let front : List ℕ = title_line (codes "BILL") period through
    ++ head_lines period None through bill in
    let lines : List ℕ = sheet_lines (office_sheet bill) bill.held_back in
    subst (StandsIn (row_text part.layout row)) (append-nil (front ++ lines))
    (in_sheet (row_text part.layout row) front [] (office_sheet bill) bill.held_back
    (in_sheet_lines (office_sheet bill) bill.held_back part row among its))

-- the laws of pages
parts_in_page : (head : HeadSeen) (sheet : SheetSeen) (parts : PartsSeen) (part : PartSeen)
    (row : Fields) → Contains (parts_in parts) part → Contains part.rows row
    → StandsIn (line_page (decimal head.period) part.layout row) (centre_bill_page head sheet parts)
parts_in_page head sheet parts part row among its =
    let period : List ℕ = decimal head.period in
    let front : List ℕ = bill_top head sheet ++ terms_page period sheet ++ check_page sheet in
    stands_twice (line_page period part.layout row) (parts_page period parts)
    (front ++ parts_page period parts ++ links_start head ++ centre_links head ++ links_end head)
    (in_pages period parts part row among its) (record {
      front = front;
      behind = links_start head ++ centre_links head ++ links_end head;
      is = behind_three (front ++ parts_page period parts) (links_start head) (centre_links head)
          (links_end head);
    })

box_on_page : (head : HeadSeen) (sheet : SheetSeen) (parts : PartsSeen) (row : Fields)
    → sheet.sums.total ≡ None → Contains sheet.sums.rows row
    → StandsIn (sums_box head.letterhead.currency sheet.sums.layout row)
    (centre_bill_page head sheet parts)
box_on_page head sheet parts row none its =
    let period : List ℕ = decimal head.period in
    stands_twice (sums_box head.letterhead.currency sheet.sums.layout row) (bill_top head sheet)
    (centre_bill_page head sheet parts) (in_top head sheet row none its) (record {
      front = [];
      behind = terms_page period sheet ++ check_page sheet ++ parts_page period parts
          ++ links_start head ++ centre_links head ++ links_end head;
      is = behind_six (bill_top head sheet) (terms_page period sheet) (check_page sheet)
          (parts_page period parts) (links_start head) (centre_links head) (links_end head);
    })

terms_on_page : (head : HeadSeen) (sheet : SheetSeen) (parts : PartsSeen) (part : PartSeen)
    (row : Fields) → nat_lt 0 (length sheet.prices.rows) ≡ true
    → Contains (terms_in sheet) part → Contains part.rows row
    → StandsIn (line_page (decimal head.period) part.layout row) (centre_bill_page head sheet parts)
terms_on_page head sheet parts part row priced among its =
    let period : List ℕ = decimal head.period in
    stands_twice (line_page period part.layout row) (terms_page period sheet)
    (centre_bill_page head sheet parts) (in_terms_page period sheet part row priced among its)
    (record {
      front = bill_top head sheet;
      behind = check_page sheet ++ parts_page period parts ++ links_start head
          ++ centre_links head ++ links_end head;
      is = behind_five (bill_top head sheet ++ terms_page period sheet) (check_page sheet)
          (parts_page period parts) (links_start head) (centre_links head) (links_end head);
    })

sums_on_page : (head : HeadSeen) (sheet : SheetSeen) (row : Fields)
    → Contains sheet.sums.rows row
    → StandsIn (line_page (decimal head.period) sheet.sums.layout row) (office_bill_page head sheet)
sums_on_page head sheet row its =
    let period : List ℕ = decimal head.period in
    stands_twice (line_page period sheet.sums.layout row) (part_lines period sheet.sums)
    (office_bill_page head sheet) (in_part_lines period sheet.sums row its) (record {
      front = bill_top head sheet;
      behind = terms_page period sheet ++ links_start head ++ links_end head;
      is = behind_three (bill_top head sheet ++ part_lines period sheet.sums)
          (terms_page period sheet) (links_start head) (links_end head);
    })

terms_on_office_page : (head : HeadSeen) (sheet : SheetSeen) (part : PartSeen) (row : Fields)
    → nat_lt 0 (length sheet.prices.rows) ≡ true
    → Contains (terms_in sheet) part → Contains part.rows row
    → StandsIn (line_page (decimal head.period) part.layout row) (office_bill_page head sheet)
terms_on_office_page head sheet part row priced among its =
    let period : List ℕ = decimal head.period in
    let front : List ℕ = bill_top head sheet ++ part_lines period sheet.sums in
    stands_twice (line_page period part.layout row) (terms_page period sheet)
    (office_bill_page head sheet) (in_terms_page period sheet part row priced among its)
    (record {
      front = front;
      behind = links_start head ++ links_end head;
      is = behind_two (front ++ terms_page period sheet) (links_start head) (links_end head);
    })

-- the law
pub sheets_are_shown_alike : SheetsAreShownAlike
sheets_are_shown_alike = record {
  text = parts_in_text;
  sheet_text = sheet_in_text;
  office_text = office_in_text;
  page = parts_in_page;
  box = box_on_page;
  terms = terms_on_page;
  office_sums = sums_on_page;
  office_terms = terms_on_office_page;
  figures = figures;
}
