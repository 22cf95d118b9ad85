-- Reports: each is as one call of a ledger that answers a text, and what a writer has of the
-- answer.
use Rattle.std.specs.Prelude.{◌≡◌, ◌<◌, ℕ, List, length, take, Result, Ok, Err}
use Rattle.std.specs.Io.KnownBytes.{Appends}
use Rattle.streams.specs.InputOutput.{Output}
use Rattle.book_model.specs.declared.fault.LedgerFault.{LedgerFault}
use Rattle.book_core.specs.Words.{Books, IsCall}
use Rattle.book_lists.specs.declared.fault.ReportFault.{ReportFault}
use Rattle.book_lists.specs.declared.fault.ReportFault.TheVariants.{Write}
use Rattle.book_lists.specs.Faults.{report_fault_of}
use Rattle.book_reports.specs.declared.report.Report.{Report}
use Rattle.book_reports.specs.BookTexts.{report_outcome}

-- A text was written whole; or a write failed, and the writer has a prefix that is not the whole.
abbrev pub IsWritten : {A : Type 0} → List ℕ → Output → Result A ReportFault → Type 0
IsWritten text output (Ok value) = Appends output.old.holds output.new.holds text
IsWritten text output (Err Write) =
    (count : ℕ) × (count < length text)
    × Appends output.old.holds output.new.holds (take count text)
IsWritten text output (Err fault) = ⊥

-- what the books refused: nothing is written
pub record Refuses {A : Type 0} (fault : LedgerFault) (output : Output)
    (result : Result A ReportFault) : Type 0 where
  pub refusal : result ≡ Err (report_fault_of fault)
  pub none : output.new ≡ output.old

-- what the books answered was passed on to a writer
abbrev pub IsPassedOn : Result (List ℕ) LedgerFault → Output → Result (Unit {0}) ReportFault
    → Type 0
IsPassedOn (Ok text) output result = IsWritten text output result
IsPassedOn (Err fault) output result = Refuses fault output result

-- The ledger answered the text of a report, by the book and as in one call that made no event, or
-- it refused; a lack of memory for the text is one of the ledger's faults. The answer was passed on
-- to a writer.
pub record IsReport (report : Report) (books : Books) (output : Output)
    (result : Result (Unit {0}) ReportFault) : Type 0 where
  pub answer : Result (List ℕ) LedgerFault
  pub call :
      IsCall (λ text. text) books.old books.new answer (report_outcome books.old.naming report)
  pub passed_on : IsPassedOn answer output result
