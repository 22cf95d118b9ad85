-- A bill, whose parts are read from one book.
use Rattle.std.proofs.Common.{◌≡◌, ap, ℕ, List, Option, Some, None, Result, Ok, Err, ok_or}
use Rattle.std.proofs.Common.{option_map, sym, ◌∙◌}
use Rattle.book_model.specs.Words.{Book, Naming, Period, bill_of, billed_lines, details_asked}
use Rattle.book_model.specs.Words.{Credit, details_of, lines_of, period_of}
use Rattle.book_lists.proofs.CursorLemmas.{refused_back}
use Rattle.book_reports.specs.declared.bill_tariffs.KeptTariffs.{KeptTariffs}
use Rattle.book_reports.specs.declared.bill_work.PeriodWork.{PeriodWork}
use Rattle.book_reports.specs.declared.period_days.PeriodDays.{PeriodDays}
use Rattle.book_reports.proofs.Words.{BilledLine, HeldBack, Detail, LedgerFault, NoSuchPeriod}
use Rattle.book_reports.proofs.Words.{shown_by, same_value, billed_outcome, tariffs_outcome}
use Rattle.book_reports.proofs.Words.{tariffs_shown, work_outcome, work_seen, work_shown}
use Rattle.book_reports.proofs.Words.{closed_through}
use Rattle.book_reports.proofs.BillCreditLemmas.{credits_are}
use Rattle.book_reports.specs.BillCredits.{credits_outcome}
use Rattle.book_reports.specs.Bills.{PeriodBillSeen, bill_with, period_bill_outcome}
use Rattle.book_reports.specs.HeldBack.{held_back_outcome}
use Rattle.book_reports.specs.PeriodDays.{days_outcome}

-- of a period that is not there nothing is answered
pub unanswered : {A B : Type 0} (f : Period → A) (show : Period → B) (found : Option Period)
    (fault : LedgerFault) → ok_or (option_map f found) NoSuchPeriod ≡ Err fault
    → ok_or (option_map show found) NoSuchPeriod ≡ Err fault
unanswered f show None fault is = let same : NoSuchPeriod ≡ fault = cc is in ap Err same
unanswered f show (Some period) fault is = cc is

-- what is refused is shown as refused
refused_shown : {A B : Type 0} (show : A → B) (answer : Result A LedgerFault) (fault : LedgerFault)
    → answer ≡ Err fault → shown_by show answer ≡ Err fault
refused_shown show (Ok given) fault is = cc is
refused_shown show (Err other) fault is = cc is

module _ (naming : Naming) (number : ℕ) (centre : Option (List ℕ)) (book : Book) (fault : LedgerFault)
  where
    -- where its work is refused, the bill is
    pub bill_unworked : (work_outcome naming number centre book).answer ≡ Err fault
        → (period_bill_outcome naming number centre book).answer ≡ Err fault
    bill_unworked is =
        refused_shown (bill_with (closed_through book number)) _ fault
        (unanswered (λ period. details_asked centre (details_of naming book.rulings period))
        (bill_of naming book number centre) (period_of book number) fault
        (refused_back (work_seen (closed_through book number)) _ fault is))

    -- and where its lines are
    pub bill_unlined : (billed_outcome naming number centre book).answer ≡ Err fault
        → (period_bill_outcome naming number centre book).answer ≡ Err fault
    bill_unlined is =
        refused_shown (bill_with (closed_through book number)) _ fault
        (unanswered (lines_of naming book.rulings) (bill_of naming book number centre)
        (period_of book number) fault
        (refused_back (billed_lines naming book number centre) _ fault is))

-- the bill that is made of all its parts
abbrev bill_made : PeriodWork → List BilledLine → Option HeldBack → PeriodDays → KeptTariffs
    → List Credit → PeriodBillSeen
bill_made work lines held days kept credits = record {
  through = work.through;
  bill = record {
    steps = (work_shown work).steps;
    jobs = (work_shown work).jobs;
    lines = lines;
    credits = credits;
    held_back = held;
    before = days.before;
    tariffs = (tariffs_shown kept).tariffs;
    shifts = (tariffs_shown kept).shifts;
    letterhead = (tariffs_shown kept).letterhead;
  };
}

-- is what a book answers that answered these
pub bill_known : (naming : Naming) (number : ℕ) (centre : Option (List ℕ)) (work : PeriodWork)
    (lines : List BilledLine) (held : Option HeldBack) (days : PeriodDays) (kept : KeptTariffs)
    (credits : List Credit) (book : Book)
    → (work_outcome naming number centre book).answer ≡ Ok (work_shown work)
    → (billed_outcome naming number centre book).answer ≡ Ok lines
    → (held_back_outcome naming number centre book).answer ≡ Ok held
    → (days_outcome number book).answer ≡ Ok days
    → (tariffs_outcome number book).answer ≡ Ok (tariffs_shown kept)
    → (credits_outcome number centre book).answer ≡ Ok credits
    → (period_bill_outcome naming number centre book).answer
    ≡ Ok (bill_made work lines held days kept credits)
bill_known naming number centre work lines held days kept credits book worked lined holds between keeps
    credited =
    by (period_of book number) worked lined
  where
    its_details : Period → List Detail
    its_details period = details_asked centre (details_of naming book.rulings period)

    by : (found : Option Period)
        → shown_by (work_seen (closed_through book number))
        (ok_or (option_map its_details found) NoSuchPeriod)
        ≡ Ok (work_shown work)
        → shown_by (billed_lines naming book number centre)
        (ok_or (option_map (lines_of naming book.rulings) found) NoSuchPeriod)
        ≡ Ok lines
        → shown_by (bill_with (closed_through book number))
        (ok_or (option_map (bill_of naming book number centre) found) NoSuchPeriod)
        ≡ Ok (bill_made work lines held days kept credits)
    by None worked lined = cc worked
    by (Some period) worked lined =
        let of_work = same_value worked in
        let of_lines = same_value lined in
        let of_held = same_value holds in
        let of_days = same_value between in
        let of_tariffs = same_value keeps in
        let of_credits = sym (credits_are number centre book.rulings) ∙ same_value credited in
        λ i. Ok (record {
          through = (of_work i).through;
          bill = record {
            steps = (of_work i).steps;
            jobs = (of_work i).jobs;
            lines = of_lines i;
            credits = of_credits i;
            held_back = of_held i;
            before = (of_days i).before;
            tariffs = (of_tariffs i).tariffs;
            shifts = (of_tariffs i).shifts;
            letterhead = (of_tariffs i).letterhead;
          };
        })
