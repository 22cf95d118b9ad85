-- Reports of an open ledger.
use Rattle.std.proofs.Common.{◌≡◌, ◌≢◌, List, refl, sym, ap, subst, Result, Ok, Err, ℕ}
use Rattle.streams.specs.InputOutput.{Output}
use Rattle.book_model.specs.declared.fault.LedgerFault.{LedgerFault}
use Rattle.book_model.specs.Words.{Book, Naming}
use Rattle.book_core.specs.Words.{IsCall, Books, Seen, books}
use Rattle.book_lists.specs.declared.fault.ReportFault.{ReportFault}
use Rattle.book_lists.specs.declared.fault.ReportFault.TheVariants.{Write, Memory, Ledger}
use Rattle.book_lists.specs.Faults.{report_fault_of}
use Rattle.book_lists.proofs.WritingLemmas.{refusal_not_write}
use Rattle.book_reports.specs.declared.report.Report.{Report}
use Rattle.book_reports.specs.BookTexts.{report_outcome}
use Rattle.book_reports.specs.Reports.{IsPassedOn}
use Rattle.book_laws.specs.AnswerLaws.{IsCalled}
use Rattle.book_laws.specs.ReportLaws.{IsReported, HasText, HasPrefix, IsRefused, OneText}
use Rattle.book_laws.specs.ReportLaws.{OnePrefix, OneRefusedReport}
use Rattle.book_laws.proofs.AnswerLemmas.{one_answer, one_refusal}
use Rattle.book_model.specs.declared.fault.LedgerFault.TheVariants as ledger

-- the fault of a report that failed
abbrev fault_or : ReportFault → Result (Unit {0}) ReportFault → ReportFault
fault_or other (Ok done) = other
fault_or other (Err fault) = fault

-- the refusal that a report's fault gives
abbrev refusal_or : LedgerFault → ReportFault → LedgerFault
refusal_or other (Ledger fault) = fault
refusal_or other fault = other

ok_not_err : {fault : ReportFault} → ◌≡◌ {A = Result (Unit {0}) ReportFault} (Ok tt) (Err fault) → ⊥
ok_not_err same = cc

-- an answer that was passed on whole is a text
text_of : (answer : Result (List ℕ) LedgerFault) (output : Output)
    → IsPassedOn answer output (Ok tt) → HasText answer output
text_of (Ok text) output passed = record { text = text; is = refl; written = passed }
text_of (Err fault) output passed = absurd (ok_not_err passed.refusal)

-- so is one that was passed on in part
front_of : (answer : Result (List ℕ) LedgerFault) (output : Output)
    → IsPassedOn answer output (Err Write) → HasPrefix answer output
front_of (Ok text) output passed = record {
  text = text;
  is = refl;
  count = passed.0;
  less = passed.1;
  written = passed.2;
}
front_of (Err fault) output passed =
    absurd (refusal_not_write fault (ap (fault_or Memory) passed.refusal) refl)

-- the refusal that a report gives is the one that it was answered
told_is : (answered fault : LedgerFault) → Ledger fault ≡ report_fault_of answered
    → (answered ≡ fault) × (answered ≢ ledger.Memory)
told_is ledger.Memory fault same = absurd (never same)
  where
    never : Ledger fault ≡ Memory → ⊥
    never same = cc
told_is answered fault same = (sym (ap (refusal_or fault) same), λ is. cc)

refusal_of : (answer : Result (List ℕ) LedgerFault) (fault : LedgerFault) (output : Output)
    → IsPassedOn answer output (Err (Ledger fault))
    → IsRefused answer fault output × (fault ≢ ledger.Memory)
refusal_of (Ok text) fault output passed = absurd passed
refusal_of (Err answered) fault output passed =
    let told = told_is answered fault (ap (fault_or Memory) passed.refusal) in (
      record { is = ap Err told.0; none = passed.none },
      subst (λ fault. fault ≢ ledger.Memory) told.0 told.1,
    )

-- the call of a report, if this is its answer
called_for : {asked : Report} {naming : Naming} {start : Book} {books : Books} {output : Output}
    {result : Result (Unit {0}) ReportFault} (answer : Result (List ℕ) LedgerFault)
    (come : IsReported asked naming start books output result) → come.report.answer ≡ answer
    → IsCalled (λ text. text) (report_outcome naming asked) naming start books.old books.new answer
called_for {asked = asked} {naming = naming} {books = books} answer come is = record {
  opened = come.opened;
  honest = come.honest;
  call =
      subst (λ answer. IsCall (λ text. text) books.old books.new answer
      (report_outcome naming asked)) is
      (subst (λ names. IsCall (λ text. text) books.old books.new come.report.answer
      (report_outcome names asked)) come.opened.naming come.report.call);
}

-- a text that a report was answered is the one that the definitions give for the book
text_is : {L : Type 0} (seen : L → Seen) (asked : Report) (naming : Naming) (start : Book)
    (old new : L) {output : Output} {result : Result (Unit {0}) ReportFault} (text : List ℕ)
    (come : IsReported asked naming start (books seen old new) output result)
    → come.report.answer ≡ Ok text → (report_outcome naming asked start).answer ≡ Ok text
text_is seen asked naming start old new text come is =
    one_answer _ _ seen (λ text. text) (report_outcome naming asked) naming start old new text
    (called_for (Ok text) come is)

pub one_text : {L : Type 0} (seen : L → Seen) → OneText seen
one_text seen asked naming start old new output come =
    let has = text_of come.report.answer output come.report.passed_on in
    record {
      text = has.text;
      is = text_is seen asked naming start old new has.text come has.is;
      written = has.written;
    }

pub one_prefix : {L : Type 0} (seen : L → Seen) → OnePrefix seen
one_prefix seen asked naming start old new output come =
    let has = front_of come.report.answer output come.report.passed_on in
    record {
      text = has.text;
      is = text_is seen asked naming start old new has.text come has.is;
      count = has.count;
      less = has.less;
      written = has.written;
    }

pub one_refused_report : {L : Type 0} (seen : L → Seen) → OneRefusedReport seen
one_refused_report seen asked naming start old new output fault store come =
    let told = refusal_of come.report.answer fault output come.report.passed_on in
    record {
      is = one_refusal _ _ seen (λ text. text) (report_outcome naming asked) naming start old new
          fault told.1 store (called_for (Err fault) come told.0.is);
      none = told.0.none;
    }
