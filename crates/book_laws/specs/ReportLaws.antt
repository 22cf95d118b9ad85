-- Laws of reports: what is written about books is the text that the definitions give.
use Rattle.std.specs.Prelude.{◌≡◌, ◌≢◌, ◌<◌, ℕ, List, length, take, Result, Ok, Err}
use Rattle.std.specs.Io.KnownBytes.{Appends}
use Rattle.streams.specs.InputOutput.{Output}
use Rattle.book_model.specs.declared.fault.LedgerFault.{LedgerFault}
use Rattle.book_model.specs.declared.fault.LedgerFault.TheVariants.{Store}
use Rattle.book_model.specs.Words.{Naming, Book}
use Rattle.book_core.specs.Ledgers.{Books, Seen, IsOpenAt, books}
use Rattle.book_lists.specs.declared.fault.ReportFault.{ReportFault}
use Rattle.book_lists.specs.declared.fault.ReportFault.TheVariants.{Write, Ledger}
use Rattle.book_reports.specs.declared.report.Report.{Report}
use Rattle.book_reports.specs.BookTexts.{report_outcome}
use Rattle.book_reports.specs.Reports.{IsReport}

-- a report of a ledger that was open with this book, on a store that is honest to the end
pub record IsReported (asked : Report) (naming : Naming) (start : Book) (books : Books)
    (output : Output) (result : Result (Unit {0}) ReportFault) : Type 0 where
  pub opened : IsOpenAt naming start books.old
  pub honest : books.new.is_honest
  pub report : IsReport asked books output result

-- the answer is a text, and the writer has all of it more
pub record HasText (answer : Result (List ℕ) LedgerFault) (output : Output) : Type 0 where
  pub text : List ℕ
  pub is : answer ≡ Ok text
  pub written : Appends output.old.holds output.new.holds text

-- the answer is a text, and the writer has a prefix of it more, which is not the whole
pub record HasPrefix (answer : Result (List ℕ) LedgerFault) (output : Output) : Type 0 where
  pub text : List ℕ
  pub is : answer ≡ Ok text
  pub count : ℕ
  pub less : count < length text
  pub written : Appends output.old.holds output.new.holds (take count text)

-- What was written whole is the text that the definitions give for the book.
abbrev pub OneText : {L : Type 0} → (L → Seen) → Type 0
OneText {L} seen =
    (asked : Report) (naming : Naming) (start : Book) (old new : L) (output : Output)
    → IsReported asked naming start (books seen old new) output (Ok tt)
    → HasText (report_outcome naming asked start).answer output

-- If a write failed, a prefix of that text was written.
abbrev pub OnePrefix : {L : Type 0} → (L → Seen) → Type 0
OnePrefix {L} seen =
    (asked : Report) (naming : Naming) (start : Book) (old new : L) (output : Output)
    → IsReported asked naming start (books seen old new) output (Err Write)
    → HasPrefix (report_outcome naming asked start).answer output

-- the answer is this refusal, and nothing was written
pub record IsRefused (answer : Result (List ℕ) LedgerFault) (fault : LedgerFault) (output : Output)
    : Type 0 where
  pub is : answer ≡ Err fault
  pub none : output.new ≡ output.old

-- A refusal of the books that a report gives is one that the definitions give, but for a fault of
-- the store; out of memory is reported otherwise.
abbrev pub OneRefusedReport : {L : Type 0} → (L → Seen) → Type 0
OneRefusedReport {L} seen =
    (asked : Report) (naming : Naming) (start : Book) (old new : L) (output : Output)
    (fault : LedgerFault) → fault ≢ Store
    → IsReported asked naming start (books seen old new) output (Err (Ledger fault))
    → IsRefused (report_outcome naming asked start).answer fault output
