-- Bills as texts: whose bill it is, for which days, and by whom; then its sheet.
use Rattle.std.specs.Prelude.{ℕ, List, [], ◌++◌, codes, ℤ, pos, ◌+ℤ◌, int_lt, if◌then◌else◌}
use Rattle.std.specs.Prelude.{Option, Some, None, option_map, slice_get}
use Rattle.std.specs.Fmt.{decimal}
use Rattle.smf_text.specs.Day.{last_day}
use Rattle.book_model.specs.declared.bill.BilledTariff.{BilledTariff}
use Rattle.book_model.specs.declared.bill.HeldBack.{HeldBack}
use Rattle.book_model.specs.Words.{BillSeen, day_text_of}
use Rattle.report_texts.specs.Centres.{centre_title}
use Rattle.report_texts.specs.Columns.{amount_text, newline}
use Rattle.report_texts.specs.Periods.{title_line}
use Rattle.bill_texts.specs.BillSheets.{centre_parts, centre_sheet, office_sheet}
use Rattle.bill_texts.specs.Sheets.{SheetSeen}
use Rattle.bill_texts.specs.SheetTexts.{part_lines, parts_text, terms_text}

-- the number of a bill: that of the period, and the name of the centre
unfoldable pub bill_number : ℕ → Option (List ℕ) → List ℕ
bill_number period None = decimal period
bill_number period (Some centre) = decimal period ++ codes "-" ++ centre

-- no number stands for two papers: until its period is closed a bill is a draft
unfoldable pub paper : Option ℤ → List ℕ
paper None = codes "DRAFT "
paper (Some through) = codes "NUMBER "

-- the first day of the first of some tariffs
abbrev pub first_begun : List BilledTariff → Option ℤ
first_begun tariffs = option_map (λ (tariff : BilledTariff). tariff.day) (slice_get tariffs 0)

-- the first day of a bill: the one after the close before its period, where there is one, but none
-- after the last day that there is; else that of its first tariff, before which nothing is charged
abbrev pub day_after : ℤ → Option ℤ
day_after close = if int_lt close last_day then Some (close +ℤ pos 1) else None

unfoldable pub first_day : Option ℤ → List BilledTariff → Option ℤ
first_day None tariffs = first_begun tariffs
first_day (Some close) tariffs = day_after close

unfoldable pub from_line : Option ℤ → List ℕ
from_line None = []
from_line (Some day) = codes "FROM " ++ day_text_of day ++ newline

-- the line of a word and a text, where the text is there
unfoldable pub given_line : List ℕ → Option (List ℕ) → List ℕ
given_line word None = []
given_line word (Some text) = word ++ text ++ newline

-- what stands below the title
unfoldable pub head_lines : ℕ → Option (List ℕ) → Option ℤ → BillSeen → List ℕ
head_lines period centre through bill =
    paper through ++ bill_number period centre ++ newline
    ++ from_line (first_day bill.before bill.tariffs)
    ++ given_line (codes "OFFICE ") bill.letterhead.office
    ++ given_line (codes "CURRENCY ") bill.letterhead.currency

-- what is held back, in the open period
unfoldable pub held_back_line : Option HeldBack → List ℕ
held_back_line None = []
held_back_line (Some held) =
    codes "DISPUTES " ++ decimal held.disputes ++ codes " LEAST " ++ amount_text held.least
    ++ codes " GREATEST " ++ amount_text held.greatest ++ newline

-- the sums, what is held back, and the prices and percents
unfoldable pub sheet_lines : SheetSeen → Option HeldBack → List ℕ
sheet_lines sheet held = part_lines sheet.sums ++ held_back_line held ++ terms_text sheet

-- the bill of a centre for a period, by its number, the day that it was closed through, if it was,
-- and what the centre has in it
abbrev pub bill_text : List ℕ → ℕ → Option ℤ → BillSeen → List ℕ
bill_text centre period through bill =
    title_line (centre_title (codes "BILL") centre) period through
    ++ head_lines period (Some centre) through bill
    ++ sheet_lines (centre_sheet centre bill) bill.held_back
    ++ parts_text (centre_parts bill)

-- the bill of the office, by what all centres have in the period
abbrev pub office_bill_text : ℕ → Option ℤ → BillSeen → List ℕ
office_bill_text period through bill =
    title_line (codes "BILL") period through ++ head_lines period None through bill
    ++ sheet_lines (office_sheet bill) bill.held_back
