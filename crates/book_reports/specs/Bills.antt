-- The bill of a period, of one centre or of the whole office, as a text or as a table.
use Rattle.std.specs.Prelude.{ℕ, ℤ, List, Option, Some, None, Result}
use Rattle.book_model.specs.declared.fault.LedgerFault.{LedgerFault}
use Rattle.book_model.specs.Words.{BillSeen, Book, Naming, Outcome, bill_outcome, bill_shown, no_event}
use Rattle.bill_texts.specs.BillTables.{bill_table, office_bill_table}
use Rattle.bill_texts.specs.BillTexts.{bill_text, office_bill_text}
use Rattle.book_lists.specs.Shown.{shown_by}
use Rattle.book_reports.specs.declared.bills.PeriodBill.{PeriodBill}
use Rattle.book_reports.specs.declared.what_if.StatementForm.{StatementForm}
use Rattle.book_reports.specs.declared.what_if.StatementForm.TheVariants.{Text, Table}
use Rattle.book_reports.specs.Shown.{closed_through}

-- a bill, and the day that its period was closed through, if it was
pub record PeriodBillSeen : Type 0 where
  pub through : Option ℤ
  pub bill : BillSeen

-- the same as it is gathered
abbrev pub period_bill_shown : PeriodBill → PeriodBillSeen
period_bill_shown found =
    record { through = found.through; bill = bill_shown found.bill }

abbrev pub bill_with : Option ℤ → BillSeen → PeriodBillSeen
bill_with through bill = record { through = through; bill = bill }

-- what a book answers to it
abbrev pub period_bill_outcome : Naming → ℕ → Option (List ℕ) → Book → Outcome PeriodBillSeen
period_bill_outcome naming period centre book =
    no_event (shown_by (bill_with (closed_through book period))
    (bill_outcome naming period centre book).answer)

-- its text, of the whole office or of one centre
abbrev pub bill_text_in : ℕ → Option (List ℕ) → PeriodBillSeen → List ℕ
bill_text_in period None found = office_bill_text period found.through found.bill
bill_text_in period (Some centre) found = bill_text centre period found.through found.bill

-- its table
abbrev pub bill_table_in : ℕ → Option (List ℕ) → BillSeen → List ℕ
bill_table_in period None bill = office_bill_table period bill
bill_table_in period (Some centre) bill = bill_table centre period bill

-- the one or the other
abbrev pub bill_in : StatementForm → ℕ → Option (List ℕ) → PeriodBillSeen → List ℕ
bill_in Text period centre found = bill_text_in period centre found
bill_in Table period centre found = bill_table_in period centre found.bill

-- and what a book answers then
abbrev pub bill_answer :
    Naming → StatementForm → ℕ → Option (List ℕ) → Book → Result (List ℕ) LedgerFault
bill_answer naming form period centre book =
    shown_by (bill_in form period centre) (period_bill_outcome naming period centre book).answer

-- which is no event
abbrev pub bill_report : Naming → StatementForm → ℕ → Option (List ℕ) → Book → Outcome (List ℕ)
bill_report naming form period centre book = no_event (bill_answer naming form period centre book)
