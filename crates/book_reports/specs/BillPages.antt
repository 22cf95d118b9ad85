-- The page of the bill of a period, of one centre or of the whole office.
use Rattle.std.specs.Prelude.{ℕ, List, Option, Some, None, Result}
use Rattle.book_model.specs.declared.fault.LedgerFault.{LedgerFault}
use Rattle.book_model.specs.Words.{Book, Naming, Outcome, no_event}
use Rattle.bill_texts.specs.BillSheets.{centre_parts, centre_sheet, office_sheet}
use Rattle.bill_texts.specs.BillTexts.{first_day}
use Rattle.bill_pages.specs.BillPages.{HeadSeen, centre_bill_page, office_bill_page}
use Rattle.book_lists.specs.Shown.{shown_by}
use Rattle.book_reports.specs.Bills.{PeriodBillSeen, period_bill_outcome}

-- whose bill it is, and of which days
abbrev pub head_of : ℕ → Option (List ℕ) → PeriodBillSeen → HeadSeen
head_of period centre found = record {
  period = period;
  centre = centre;
  first = first_day found.bill.before found.bill.tariffs;
  through = found.through;
  held = found.bill.held_back;
  letterhead = found.bill.letterhead;
}

-- its page, of the whole office or of one centre
abbrev pub bill_page_in : ℕ → Option (List ℕ) → PeriodBillSeen → List ℕ
bill_page_in period None found =
    office_bill_page (head_of period None found) (office_sheet found.bill)
bill_page_in period (Some centre) found =
    centre_bill_page (head_of period (Some centre) found) (centre_sheet centre found.bill)
    (centre_parts found.bill)

-- and what a book answers, whatever the centre is
abbrev pub bill_page_answer : Naming → ℕ → Option (List ℕ) → Book → Result (List ℕ) LedgerFault
bill_page_answer naming period centre book =
    shown_by (bill_page_in period centre) (period_bill_outcome naming period centre book).answer

-- which is no event
abbrev pub bill_page_outcome : Naming → ℕ → Option (List ℕ) → Book → Outcome (List ℕ)
bill_page_outcome naming period centre book = no_event (bill_page_answer naming period centre book)
