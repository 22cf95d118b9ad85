-- The texts about a closed period stay.
use Rattle.std.proofs.Common.{◌≡◌, ℕ, zero, suc, List, ◌++◌, Option, Result, Ok, Err, arith, refl}
use Rattle.std.proofs.Common.{int_cmp}
use Rattle.std.specs.List.Sorted.{IsStrictlySortedBy}
use Rattle.book_model.specs.declared.fault.LedgerFault.{LedgerFault}
use Rattle.book_model.specs.Words.{TariffFault, Book, Event, IsMadeByCalls, Naming, Terms}
use Rattle.book_model.specs.Words.{after_all, begun_in, bill_outcome, book_after, details_outcome}
use Rattle.book_model.specs.Words.{of_centre, terms_in, what_if_outcome}
use Rattle.book_model.specs.MadeByCalls.{AreMadeOf}
use Rattle.book_reports.specs.declared.report.PeriodReport.{PeriodReport}
use Rattle.book_reports.specs.declared.report.PeriodReport.TheVariants.{AdjustmentList, Statement}
use Rattle.book_reports.specs.declared.report.PeriodReport.TheVariants.{AdjustmentTable}
use Rattle.book_reports.specs.declared.report.PeriodReport.TheVariants.{StatementTable}
use Rattle.book_reports.specs.declared.report.Report.TheVariants.{Bill, BillPage, OfPeriod}
use Rattle.book_reports.specs.declared.streamed_details.DetailReport.{DetailReport}
use Rattle.book_reports.specs.declared.what_if.StatementForm.{StatementForm}
use Rattle.book_reports.specs.declared.what_if.StatementForm.TheVariants.{Text, Table}
use Rattle.book_reports.specs.declared.what_if.WhatIf.{WhatIf}
use Rattle.book_reports.specs.BillPages.{bill_page_in}
use Rattle.book_reports.specs.Bills.{bill_in, bill_with}
use Rattle.book_reports.specs.BookTexts.{period_adjustment_table, period_adjustments, period_answer}
use Rattle.book_reports.specs.BookTexts.{period_statement, period_statement_table, report_answer}
use Rattle.book_reports.specs.BookTexts.{shown_by}
use Rattle.book_reports.specs.StreamedDetails.{detail_answer, details_text}
use Rattle.book_reports.specs.WhatIfTexts.{form_under, shown_by_both, table_shown, text_shown}
use Rattle.book_reports.specs.WhatIfTexts.{what_if_by, what_if_report}
use Rattle.book_laws.specs.ClosedPeriods.{IsReadAlike}
use Rattle.book_laws.specs.ClosedTexts.{BooksKeepTexts, ClosedTextsStay, IsFinal, IsFinalInBooks}
use Rattle.book_laws.specs.ClosedTexts.{TextsStay}
use Rattle.book_laws.proofs.BillStays.{books_keep_bills, closed_bills_stay}
use Rattle.book_laws.proofs.ClosedLemmas.{books_stay_closed, closed_stays}
use Rattle.book_laws.proofs.LaterLemmas.{answered_before, closes_rise, made_later, of_history}
use Rattle.book_laws.proofs.OtherWorkLemmas.{books_keep_what_ifs, what_if}
use Rattle.book_laws.proofs.StayLemmas.{books_keep_details, details_stay}
use Rattle.book_laws.proofs.TariffStays.{begun_stay}
use Rattle.book_laws.proofs.Words.{IsClosed}

-- a statement, or adjustments, of a period that is read alike
answer_stays : (naming : Naming) (number : ℕ) (old new : Book)
    → IsReadAlike naming number old new → (report : PeriodReport) (centre : Option (List ℕ))
    → period_answer naming report number centre new ≡ period_answer naming report number centre old
answer_stays naming number old new alike Statement centre =
    λ i. shown_by (period_statement centre number (alike.day i)) (alike.rows i).answer
answer_stays naming number old new alike StatementTable centre =
    λ i. shown_by (period_statement_table centre number) (alike.rows i).answer
answer_stays naming number old new alike AdjustmentList centre =
    λ i. shown_by (period_adjustments centre number (alike.day i)) (alike.lines i).answer
answer_stays naming number old new alike AdjustmentTable centre =
    λ i. shown_by (period_adjustment_table centre number) (alike.lines i).answer

-- the same centres are there in both books
abbrev pub HasSameCentres : ℕ → Book → Book → Type 0
HasSameCentres number old new = begun_in number new.rulings ≡ begun_in number old.rulings

-- so it is of each centre, and of the office
pub period_stays : (naming : Naming) (number : ℕ) (old new : Book)
    → IsReadAlike naming number old new → HasSameCentres number old new → (report : PeriodReport)
    (centre : Option (List ℕ))
    → report_answer naming (OfPeriod report number centre) new
    ≡ report_answer naming (OfPeriod report number centre) old
period_stays naming number old new alike begun report centre =
    let answer = answer_stays naming number old new alike report centre in
    λ i. of_centre (begun i) centre (answer i)

-- the tariffs that begin by the last day of a closed period stay, so the same centres are there
centres_later : (naming : Naming) (later : List Event) (old : Book) (number : ℕ)
    → IsStrictlySortedBy int_cmp old.rulings.closes → AreMadeOf naming old later
    → IsClosed number old → HasSameCentres number old (after_all later old)
centres_later naming later old zero rising made closed =
    let some = closed.is_numbered in
    absurd (omega arith)
centres_later naming later old (suc k) rising made closed =
    let past = closed.is_past in
    begun_stay naming later old k rising made (omega arith)

pub centres_stay : (naming : Naming) (later earlier : List Event) (number : ℕ)
    → IsMadeByCalls naming (later ++ earlier) → IsClosed number (book_after earlier)
    → HasSameCentres number (book_after earlier) (book_after (later ++ earlier))
centres_stay naming later earlier number answered closed =
    of_history (HasSameCentres number (book_after earlier)) later earlier
    (centres_later naming later (book_after earlier) number
    (closes_rise naming earlier (answered_before naming later earlier answered))
    (made_later naming later earlier answered) closed)

-- what two books answer of a period is the same
record AnswersAlike (naming : Naming) (number : ℕ) (old new : Book) : Type 0 where
  read : IsReadAlike naming number old new
  begun : HasSameCentres number old new
  bill : (centre : Option (List ℕ))
      → bill_outcome naming number centre new ≡ bill_outcome naming number centre old
  details : (centre : Option (List ℕ))
      → details_outcome naming number centre new ≡ details_outcome naming number centre old
  priced : (terms : Terms) → what_if_outcome number terms new ≡ what_if_outcome number terms old

module _ (naming : Naming) (number : ℕ) (old new : Book)
    (alike : AnswersAlike naming number old new) where
  -- so is what the period would have cost by these terms
  form_stays : (form : StatementForm) (centre : Option (List ℕ)) (digest : List ℕ) (terms : Terms)
      → form_under form centre number digest terms new
      ≡ form_under form centre number digest terms old
  form_stays Text centre digest terms =
      let other = alike.priced terms in
      λ i. shown_by_both (text_shown centre number digest (alike.read.day i)) (other i).answer
      (alike.read.rows i).answer
  form_stays Table centre digest terms =
      let other = alike.priced terms in
      λ i. shown_by (table_shown centre number) (other i).answer

  -- and its bill
  bill_stays : (form : StatementForm) (centre : Option (List ℕ))
      → report_answer naming (Bill form number centre) new
      ≡ report_answer naming (Bill form number centre) old
  bill_stays form centre =
      let bill = alike.bill centre in
      λ i. of_centre (alike.begun i) centre (shown_by (bill_in form number centre)
      (shown_by (bill_with (alike.read.day i)) (bill i).answer))

  -- also as a page
  bill_page_stays : (centre : Option (List ℕ))
      → report_answer naming (BillPage number centre) new
      ≡ report_answer naming (BillPage number centre) old
  bill_page_stays centre =
      let bill = alike.bill centre in
      λ i. of_centre (alike.begun i) centre (shown_by (bill_page_in number centre)
      (shown_by (bill_with (alike.read.day i)) (bill i).answer))

-- the same of the details that are wanted,
details_stay_so : (naming : Naming) (wanted : DetailReport) (old new : Book)
    → AnswersAlike naming wanted.period old new
    → detail_answer wanted naming new ≡ detail_answer wanted naming old
details_stay_so naming wanted old new alike =
    let kept = alike.details wanted.centre in
    λ i. of_centre (alike.begun i) wanted.centre
    (shown_by (details_text wanted (alike.read.day i)) (kept i).answer)

-- and by a tariff's file
what_if_stays : (naming : Naming) (asked : WhatIf) (text : List ℕ)
    (said : Result Terms TariffFault) (old new : Book) → AnswersAlike naming asked.period old new
    → what_if_by asked text said new ≡ what_if_by asked text said old
what_if_stays naming asked text (Err why) old new alike = refl
what_if_stays naming asked text (Ok terms) old new alike =
    form_stays naming asked.period old new alike asked.form asked.centre _ terms

-- so the texts stay where books answer alike
texts_stay : (Final : Naming → ℕ → (Book → Result (List ℕ) LedgerFault) → Type 0)
    → ((naming : Naming) (number : ℕ) (answer : Book → Result (List ℕ) LedgerFault)
    → ((old new : Book) → AnswersAlike naming number old new → answer new ≡ answer old)
    → Final naming number answer)
    → TextsStay Final
texts_stay Final final = record {
  reports = λ naming report number centre.
      final naming number (report_answer naming (OfPeriod report number centre))
      (λ old new alike. period_stays naming number old new alike.read alike.begun report centre);
  bills = λ naming form number centre.
      final naming number (report_answer naming (Bill form number centre))
      (λ old new alike. bill_stays naming number old new alike form centre);
  bill_pages = λ naming number centre.
      final naming number (report_answer naming (BillPage number centre))
      (λ old new alike. bill_page_stays naming number old new alike centre);
  details = λ naming wanted.
      final naming wanted.period (detail_answer wanted naming) (details_stay_so naming wanted);
  what_ifs = λ naming asked tariff.
      final naming asked.period (λ book. (what_if_report asked tariff book).answer)
      (what_if_stays naming asked tariff (terms_in tariff));
}

-- the law, of books that can be read back
pub books_keep_texts : BooksKeepTexts
books_keep_texts = texts_stay IsFinalInBooks
    (λ naming number answer stays book later whole made closed.
    stays book (after_all later book) (record {
      read = books_stay_closed naming book later number whole made closed;
      begun = centres_later naming later book number whole.in_order made closed;
      bill = λ centre. books_keep_bills naming book later number centre whole made closed;
      details = λ centre. books_keep_details naming book later number centre whole made closed;
      priced = λ terms. books_keep_what_ifs naming book later number terms whole made closed;
    }))

-- and of histories
pub closed_texts_stay : ClosedTextsStay
closed_texts_stay = texts_stay IsFinal
    (λ naming number answer stays later earlier answered closed.
    stays (book_after earlier) (book_after (later ++ earlier)) (record {
      read = closed_stays naming later earlier number answered closed;
      begun = centres_stay naming later earlier number answered closed;
      bill = λ centre. closed_bills_stay naming later earlier number centre answered closed;
      details = λ centre. details_stay naming later earlier number centre answered closed;
      priced = λ terms. what_if.closed naming later earlier number terms answered closed;
    }))
