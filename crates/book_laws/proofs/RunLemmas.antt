-- The laws of runs, from those of the histories that runs make.
use Rattle.std.proofs.Common.{◌≡◌, ◌∙◌, ℕ, List, Option, None, Ok, refl, sym, ap, subst, pos, ℤ}
use Rattle.book_model.specs.Words.{IsMadeByCalls, Book, new_book, is_undisputed, Event, book_after}
use Rattle.book_model.specs.Words.{Naming, begun_in, of_centre}
use Rattle.book_model.specs.JournalLaws.{unjournaled}
use Rattle.book_model.proofs.JournalLemmas.{imports_are_free}
use Rattle.book_model.proofs.OrderLemmas.{order_is_free}
use Rattle.book_model.proofs.Lemmas.{has_those, books_follow_history}
use Rattle.book_laws.proofs.Words.{IsReadAlike, one_if, after_all-append, Statement}
use Rattle.book_laws.specs.HistoryLaws.{IsBalanced}
use Rattle.book_laws.proofs.ClosedLemmas.{closed_stays}
use Rattle.book_laws.proofs.ClosedTexts.{HasSameCentres, centres_stay, period_stays}
use Rattle.book_laws.proofs.NetLemmas.{charged_once}
use Rattle.book_laws.proofs.ReadLemmas.{conserved}
use Rattle.book_reports.specs.BookTexts.{open_statement, period_answer, report_answer}
use Rattle.book_reports.specs.declared.report.PeriodReport.{PeriodReport}
use Rattle.book_reports.specs.declared.report.PeriodReport.TheVariants.{AdjustmentList}
use Rattle.book_reports.specs.declared.report.PeriodReport.TheVariants.{AdjustmentTable}
use Rattle.book_reports.specs.declared.report.PeriodReport.TheVariants.{StatementTable}
use Rattle.book_reports.specs.declared.report.Report.{Report}
use Rattle.book_reports.specs.declared.report.Report.TheVariants.{OfPeriod, Record}
use Rattle.book_core.proofs.FollowLemmas.{history_goes_on}
use Rattle.office.proofs.RunLemmas.{runs_answered}
use Rattle.book_laws.specs.RunLaws.{RunsMakeHistory, RunsFollowHistory, ChargesOnce, RunsChargeOnce}
use Rattle.book_laws.specs.RunLaws.{RunsConserve, RunCutsAreFree, RunOrderIsFree}
use Rattle.book_laws.specs.RunLaws.{ClosedStatementsStay, OpenStatementIsFirst}
use Rattle.book_laws.specs.Runs.{Run, IsRunAfter, book_after_run, history_with}
use Rattle.book_laws.specs.Statements.{HaveSameTexts, ReadsNoEntry}

-- the book that a run leaves is that of the history with it
pub left_after : (history : List Event) (run : Run)
    → book_after_run history run ≡ book_after (history_with history run)
left_after history run = sym (after_all-append run.events history new_book)

-- calls made the history that goes on with a run
pub next_answered : (naming : Naming) (history : List Event) (run : Run)
    → IsRunAfter naming history run → IsMadeByCalls naming (history_with history run)
next_answered naming history run after =
    history_goes_on naming run.events history
    (runs_answered naming run.requests run.answers (book_after history) after.was run.events
    after.is after.runs) after.answered

-- the law
pub runs_make_history : RunsMakeHistory
runs_make_history = record {
  new = λ naming was is run runs. record { answered = tt; was = was; is = is; runs = runs };
  flat = λ naming terms was is run runs.
      record { answered = (refl, tt); was = was; is = is; runs = runs };
  next = next_answered;
}

-- the law of the history as a whole
pub runs_follow_history : RunsFollowHistory
runs_follow_history naming history run after =
    left_after history run ∙ books_follow_history (history_with history run)

-- what is charged now is held and undisputed
charges_once : (history : List Event) → ChargesOnce (book_after history)
charges_once history bytes =
    let book : Book = book_after history in
    charged_once history bytes
    ∙ ap (λ charged. pos (one_if charged))
    (has_those (is_undisputed book.rulings book.held) book.held bytes)

-- the law of the net count
pub runs_charge_once : RunsChargeOnce
runs_charge_once naming history run after =
    subst ChargesOnce (sym (left_after history run)) (charges_once (history_with history run))

-- the law of the amounts
pub runs_conserve : RunsConserve
runs_conserve naming history run after =
    subst (IsBalanced naming) (sym (left_after history run))
    (conserved naming (history_with history run) (next_answered naming history run after))

-- equal books have equal reports
tell_alike : (one other : Book) → one ≡ other → HaveSameTexts one other
tell_alike one other same = record {
  book = same;
  reports = λ naming report. ap (report_answer naming report) same;
}

-- the law of cuts and order
pub run_order_is_free : RunOrderIsFree
run_order_is_free naming before_one before_other one other after_one after_other ruled between =
    tell_alike (book_after_run before_one one) (book_after_run before_other other)
    (left_after before_one one
    ∙ order_is_free new_book (history_with before_one one) (history_with before_other other) ruled
    between
    ∙ sym (left_after before_other other))

-- what a period has does not depend on the journal
period_alone : (naming : Naming) (report : PeriodReport) (period : ℕ)
    (centre : Option (List ℕ)) (book : Book)
    → period_answer naming report period centre (unjournaled book)
    ≡ period_answer naming report period centre book
period_alone naming Statement period centre book = refl
period_alone naming StatementTable period centre book = refl
period_alone naming AdjustmentList period centre book = refl
period_alone naming AdjustmentTable period centre book = refl

-- nor does a report that says nothing of it
pub texts_alone : (naming : Naming) (report : Report) (book : Book) → ReadsNoEntry report
    → report_answer naming report (unjournaled book) ≡ report_answer naming report book
texts_alone naming (OfPeriod report period centre) book none =
    ap (of_centre (begun_in period book.rulings) centre)
    (period_alone naming report period centre book)
texts_alone naming (Record name) book none = absurd none
texts_alone naming report book none = refl

-- so it is the same of books that differ in their journals alone
pub texts_apart : (naming : Naming) (report : Report) (one other : Book) → ReadsNoEntry report
    → unjournaled one ≡ unjournaled other
    → report_answer naming report one ≡ report_answer naming report other
texts_apart naming report one other none same =
    sym (texts_alone naming report one none) ∙ ap (report_answer naming report) same
    ∙ texts_alone naming report other none

-- the law of cuts and notes
pub run_cuts_are_free : RunCutsAreFree
run_cuts_are_free naming before_one before_other one other after_one after_other ruled between =
    let same = ap unjournaled (left_after before_one one)
    ∙ imports_are_free new_book (history_with before_one one) (history_with before_other other) ruled
    between
    ∙ ap unjournaled (sym (left_after before_other other)) in
    record {
      book = same;
      reports = λ naming report none.
          texts_apart naming report (book_after_run before_one one)
          (book_after_run before_other other) none same;
    }

-- the law of closed statements
pub closed_statements_stay : ClosedStatementsStay
closed_statements_stay naming history run number after closed =
    let old : Book = book_after history in
    let read = closed_stays naming run.events history number
    (next_answered naming history run after) closed in
    let alike : IsReadAlike naming number old (book_after_run history run) =
    subst (IsReadAlike naming number old) (sym (left_after history run)) read in
    let centres = centres_stay naming run.events history number
    (next_answered naming history run after) closed in
    let same : HasSameCentres number old (book_after_run history run) =
    subst (HasSameCentres number old) (sym (left_after history run)) centres in
    record {
      read = alike;
      reports = period_stays naming number old (book_after_run history run) alike same;
    }

-- the law of the open statement
pub open_statement_is_first : OpenStatementIsFirst
open_statement_is_first naming book never =
    let closed_by : List ℤ → Book = λ days.
    record book { rulings = record book.rulings { closes = days } } in
    subst (λ days. report_answer naming (OfPeriod Statement 1 None) (closed_by days)
    ≡ Ok (open_statement (closed_by days))) (sym never) refl
