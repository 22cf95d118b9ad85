-- Answers that are passed on to a writer; and reports of ledgers in memory.
use Rattle.std.proofs.Common.{◌≡◌, ◌∙◌, ℕ, ◌<◌, true, List, [], ◌∷◌, length, take, None, Result, Ok}
use Rattle.std.proofs.Common.{Err, Vec, Global, refl, sym, ap, subst, append-nil, IfErr}
use Rattle.std.specs.Io.KnownBytes.{Appends}
use Rattle.streams.specs.InputOutput.{Output}
use Rattle.book_model.specs.Words.{Answers, Book, Naming}
use Rattle.book_core.specs.Words.{IsCall, Books, in_memory}
use Rattle.book_core.proofs.MemoryLemmas.{answers_in_memory, stays_in_memory}
use Rattle.book_lists.specs.Writing.{is_write_or_memory}
use Rattle.book_lists.proofs.WritingLemmas.{memory_not_write, nothing_written, prefix_written}
use Rattle.book_reports.specs.declared.report.Report.{Report}
use Rattle.book_reports.proofs.Words.{LedgerFault, Memory, ReportFault, WritesTexts, IsAlike}
use Rattle.book_reports.proofs.Words.{IsReading, Tells, fault_alike, fault_tells, read_as}
use Rattle.book_reports.proofs.Words.{same_value, report_outcome, shown_by}
use Rattle.book_reports.specs.Reports.{IsPassedOn, IsReport}
use Rattle.book_lists.specs.declared.fault.ReportFault.TheVariants as report

-- an answer that is shown says what it said
shown_alike : (answer : Result (Vec ℕ Global) LedgerFault)
    → IsAlike answer (shown_by (λ (text : Vec ℕ Global). text.items) answer)
shown_alike (Ok text) = record { reopen = refl; store = refl }
shown_alike (Err fault) = fault_alike fault

shown_tells : (answer : Result (Vec ℕ Global) LedgerFault) (said : Result (List ℕ) LedgerFault)
    → Tells (λ (text : Vec ℕ Global). text.items) answer said
    → Tells (λ text. text) (shown_by (λ (text : Vec ℕ Global). text.items) answer) said
shown_tells (Ok text) said tells = tells
shown_tells (Err fault) said tells =
    fault_tells (λ (text : Vec ℕ Global). text.items) (λ (text : List ℕ). text) fault
    (λ refused. refused) tells

-- a call that answered a text, which was passed on, is a report
pub report_made : {asked : Report} {books : Books} {output : Output}
    {result : Result (Unit {0}) ReportFault} → IsReading (report_outcome books.old.naming asked)
    → (answer : Result (Vec ℕ Global) LedgerFault)
    → IsCall (λ (text : Vec ℕ Global). text.items) books.old books.new answer
    (report_outcome books.old.naming asked)
    → IsPassedOn (shown_by (λ (text : Vec ℕ Global). text.items) answer) output result
    → IsReport asked books output result
report_made none answer call passed = record {
  answer = shown_by (λ (text : Vec ℕ Global). text.items) answer;
  call = read_as none none (shown_alike answer) (λ book tells. shown_tells answer _ tells) call;
  passed_on = passed;
}

-- a text that was passed on is written
passed_written : (answer : Result (List ℕ) LedgerFault) (result : Result (Unit {0}) ReportFault)
    (output : Output) (text : List ℕ)
    → Answers (λ text. text) answer (Ok text) → IsPassedOn answer output result
    → WritesTexts (text ∷ []) output.old.holds output.new.holds result
passed_written (Ok found) (Ok done) output text answers passed =
    subst (Appends output.old.holds output.new.holds) (sym (same_value answers) ∙ sym (append-nil text)) passed
passed_written (Ok found) (Err report.Write) output text answers passed =
    let same : found ≡ text = sym (same_value answers) in
    let front = subst
    (λ text. (count : ℕ) × (count < length text)
    × Appends output.old.holds output.new.holds (take count text)) same passed in
    prefix_written text refl front
passed_written (Ok found) (Err fault) output text answers passed = absurd passed
passed_written (Err Memory) result output text answers passed =
    rw (passed.refusal, ap (λ seen. seen.holds) passed.none)
    (nothing_written report.Memory output.old.holds text [] (memory_not_write refl))
passed_written (Err fault) result output text answers passed = cc answers

-- and a fault on the way is one of the writer, or a lack of memory
passed_fault : (answer : Result (List ℕ) LedgerFault) (result : Result (Unit {0}) ReportFault)
    (output : Output) (text : List ℕ)
    → Answers (λ text. text) answer (Ok text) → IsPassedOn answer output result
    → IfErr result (λ fault. is_write_or_memory fault ≡ true)
passed_fault (Ok found) (Ok done) output text answers passed = tt
passed_fault (Ok found) (Err report.Write) output text answers passed = refl
passed_fault (Ok found) (Err fault) output text answers passed = absurd passed
passed_fault (Err Memory) result output text answers passed = rw passed.refusal refl
passed_fault (Err fault) result output text answers passed = cc answers

-- A report of a ledger in memory, whose book answers a text.
module _ {naming names : Naming} {book after : Book} {asked : Report} {output : Output}
    {result : Result (Unit {0}) ReportFault}
    (made : IsReport asked
    (record { old = in_memory naming book; new = in_memory names after }) output result)
  where
    -- the book stays
    pub report_stays : (report_outcome naming asked book).event ≡ None → after ≡ book
    report_stays none = stays_in_memory made.call none

    -- the text is written, up to a fault
    pub report_writes : (text : List ℕ) → (report_outcome naming asked book).answer ≡ Ok text
        → WritesTexts (text ∷ []) output.old.holds output.new.holds result
    report_writes text is =
        passed_written made.answer result output text
        (subst (Answers (λ text. text) made.answer) is (answers_in_memory made.call)) made.passed_on

    -- which is one of the writer, or a lack of memory
    pub report_fault : (text : List ℕ) → (report_outcome naming asked book).answer ≡ Ok text
        → IfErr result (λ fault. is_write_or_memory fault ≡ true)
    report_fault text is =
        passed_fault made.answer result output text
        (subst (Answers (λ text. text) made.answer) is (answers_in_memory made.call)) made.passed_on
