-- What the text and the page of a bill show alike: each row of its parts, and each figure.
use Rattle.std.specs.Prelude.{◌≡◌, ℕ, ℤ, ◌==◌, ◌||◌, Bool, true, not, Contains, List, [], ◌∷◌, ◌++◌}
use Rattle.std.specs.Prelude.{None, Option, decimal, filter, length, nat_lt}
use Rattle.std.specs.List.{list_all}
use Rattle.std.specs.Str.{byte}
use Rattle.book_model.specs.Words.{BillSeen}
use Rattle.bill_texts.specs.BillSheets.{centre_parts, centre_sheet, office_sheet}
use Rattle.bill_texts.specs.BillTexts.{bill_text, office_bill_text}
use Rattle.bill_texts.specs.SheetTexts.{row_text}
use Rattle.bill_texts.specs.Sheets.{Fields, PartSeen, PartsSeen, SheetSeen}
use Rattle.bill_pages.specs.BillPages.{HeadSeen, centre_bill_page, office_bill_page, sums_box}
use Rattle.bill_pages.specs.Grouped.{grouped, is_whole}
use Rattle.bill_pages.specs.SheetPages.{line_page}

-- a text stands in another
pub record StandsIn (part all : List ℕ) : Type 0 where
  pub front : List ℕ
  pub behind : List ℕ
  pub is : all ≡ front ++ part ++ behind

-- the prices and the percents of a sheet
abbrev pub terms_in : SheetSeen → List PartSeen
terms_in sheet = sheet.prices ∷ sheet.percents ∷ []

-- with the sums, all that stands on each bill
abbrev pub parts_on : SheetSeen → List PartSeen
parts_on sheet = sheet.sums ∷ terms_in sheet

-- the parts of a centre's bill, in their order
abbrev pub parts_in : PartsSeen → List PartSeen
parts_in parts =
    parts.steps_by_shift ∷ parts.jobs_by_shift ∷ parts.steps_by_day ∷ parts.jobs_by_day
    ∷ parts.late ∷ parts.reversed ∷ parts.credits ∷ []

-- a byte that figures are made of: a digit, a sign, or the point
abbrev pub is_figure_byte : ℕ → Bool
is_figure_byte b = is_whole b || b == byte "."

-- what is left of a text without its commas
abbrev pub is_kept : ℕ → Bool
is_kept b = not (b == byte ",")

abbrev pub without_commas : List ℕ → List ℕ
without_commas text = filter is_kept text

-- Each row of a sheet stands in the bill's text and on its page: the sums of a centre in the page's box,
-- the percents where there are prices; and a figure on the page is that of the text, but for its commas.
pub record SheetsAreShownAlike : Type 0 where
  pub text : (centre : List ℕ) (period : ℕ) (through : Option ℤ) (bill : BillSeen)
      (part : PartSeen) (row : Fields)
      → Contains (parts_in (centre_parts bill)) part
      → Contains part.rows row
      → StandsIn (row_text part.layout row) (bill_text centre period through bill)
  pub sheet_text : (centre : List ℕ) (period : ℕ) (through : Option ℤ) (bill : BillSeen)
      (part : PartSeen) (row : Fields)
      → Contains (parts_on (centre_sheet centre bill)) part
      → Contains part.rows row
      → StandsIn (row_text part.layout row) (bill_text centre period through bill)
  pub office_text : (period : ℕ) (through : Option ℤ) (bill : BillSeen) (part : PartSeen)
      (row : Fields)
      → Contains (parts_on (office_sheet bill)) part
      → Contains part.rows row
      → StandsIn (row_text part.layout row) (office_bill_text period through bill)
  pub page : (head : HeadSeen) (sheet : SheetSeen) (parts : PartsSeen) (part : PartSeen)
      (row : Fields)
      → Contains (parts_in parts) part
      → Contains part.rows row
      → StandsIn (line_page (decimal head.period) part.layout row)
      (centre_bill_page head sheet parts)
  pub box : (head : HeadSeen) (sheet : SheetSeen) (parts : PartsSeen) (row : Fields)
      → sheet.sums.total ≡ None
      → Contains sheet.sums.rows row
      → StandsIn (sums_box head.letterhead.currency sheet.sums.layout row)
      (centre_bill_page head sheet parts)
  pub terms : (head : HeadSeen) (sheet : SheetSeen) (parts : PartsSeen) (part : PartSeen)
      (row : Fields)
      → nat_lt 0 (length sheet.prices.rows) ≡ true
      → Contains (terms_in sheet) part
      → Contains part.rows row
      → StandsIn (line_page (decimal head.period) part.layout row)
      (centre_bill_page head sheet parts)
  pub office_sums : (head : HeadSeen) (sheet : SheetSeen) (row : Fields)
      → Contains sheet.sums.rows row
      → StandsIn (line_page (decimal head.period) sheet.sums.layout row)
      (office_bill_page head sheet)
  pub office_terms : (head : HeadSeen) (sheet : SheetSeen) (part : PartSeen) (row : Fields)
      → nat_lt 0 (length sheet.prices.rows) ≡ true
      → Contains (terms_in sheet) part
      → Contains part.rows row
      → StandsIn (line_page (decimal head.period) part.layout row) (office_bill_page head sheet)
  pub figures : (figure : List ℕ) → list_all is_figure_byte figure ≡ true
      → without_commas (grouped figure) ≡ figure
