-- What the program says on standard error: each line in its very bytes, and that it was said.
use Rattle.std.specs.Prelude.{◌≡◌, ◌<◌, ◌≤◌, ℕ, List, [], ◌∷◌, ◌++◌, length, take, drop, codes}
use Rattle.std.specs.Prelude.{Option, Result, decimal}
use Rattle.std.specs.declared.io.Error.{Error}
use Rattle.std.specs.declared.io.ErrorKind.{ErrorKind}
use Rattle.std.specs.declared.io.ErrorKind.TheVariants.{OutOfMemory}
use Rattle.std.specs.Io.KnownBytes.{Appends}
use Rattle.tariff_rules.specs.Faults.{key_text}
use Rattle.streams.specs.Failures.{FailsToWrite}
use Rattle.book_model.specs.declared.fault.LedgerFault.{LedgerFault}
use Rattle.book_model.specs.Words.{frame_number, TariffFault, tariff_number, ledger_number}
use Rattle.book_model.specs.declared.note.Stop.{Stop}
use Rattle.book_model.specs.declared.note.Stop.TheVariants.{End, Frame, Read, ReadLimit, Ledger}
use Rattle.report_texts.specs.Columns.{newline}
use Rattle.book_lists.specs.declared.fault.ReportFault.{ReportFault}
use Rattle.book_lists.specs.declared.fault.ReportFault.TheVariants as report
use Rattle.book_reports.specs.ReceiptLines.{fault_text}
use Rattle.tariff_rules.specs.declared.fault.TariffFault.TheVariants as tariff
use Rattle.book_model.specs.declared.fault.LedgerFault.TheVariants as ledger

-- the name by which the program speaks of itself
abbrev pub program_name : List ℕ
program_name = codes "chargectl"

-- a line that has something after the program's name
abbrev pub line_of : List ℕ → List ℕ
line_of what = program_name ++ codes ": " ++ what ++ newline

-- the same about the line of a text file that has this number
abbrev pub line_at : List ℕ → ℕ → List ℕ
line_at what number = line_of (what ++ codes " line " ++ decimal number)

-- a fault of a tariff: its number, and the key that is missing or out of range
abbrev pub tariff_message : TariffFault → List ℕ
tariff_message (tariff.Missing key) =
    fault_text (codes "tariff") (tariff_number (tariff.Missing key)) ++ codes " " ++ key_text key
tariff_message (tariff.Range key) =
    fault_text (codes "tariff") (tariff_number (tariff.Range key)) ++ codes " " ++ key_text key
tariff_message fault = fault_text (codes "tariff") (tariff_number fault)

-- a refusal of the books: its number, and the period that is open, where another one was named; of a
-- text that is no tariff, the fault of the tariff
abbrev pub ledger_message : LedgerFault → List ℕ
ledger_message (ledger.TariffRefused fault) = tariff_message fault
ledger_message (ledger.WrongPeriod period) =
    fault_text (codes "ledger") (ledger_number (ledger.WrongPeriod period)) ++ codes " "
    ++ decimal period
ledger_message fault = fault_text (codes "ledger") (ledger_number fault)

-- a file, a socket or the output failed
abbrev pub io_line : List ℕ
io_line = line_of (codes "io")

-- an audit found books unsound
abbrev pub unsound_line : List ℕ
unsound_line = line_of (codes "unsound")

-- another program has the file of the books open
abbrev pub busy_line : List ℕ
busy_line = line_of (codes "busy")

-- the log beside the books holds a part of them
abbrev pub log_line : List ℕ
log_line = line_of (codes "log")

-- a dump that reads as blocks was read as segments alone
abbrev pub layout_line : List ℕ
layout_line = line_of (codes "layout")

-- a ruling is dated long after the newest record
abbrev pub far_line : List ℕ
far_line = line_of (codes "far")

-- a dump has no record, or fewer trailers than headers
abbrev pub torn_line : List ℕ
torn_line = line_of (codes "torn")

-- nothing has the number that was to be explained; these are the numbers that there are
abbrev pub no_number_line : List ℕ
no_number_line =
    codes "error: nothing has this number: frame has 1 to 8, ledger 1 to 20, tariff 1 to 7, "
    ++ codes "damaged 1 to 9, a word none\n"

-- the books refused
abbrev pub ledger_line : LedgerFault → List ℕ
ledger_line fault = line_of (ledger_message fault)

-- the words of the program could not be taken over
abbrev pub arguments_line : ErrorKind → List ℕ
arguments_line OutOfMemory = ledger_line ledger.Memory
arguments_line kind = codes "error: a word is not UTF-8\n"

-- a report was not written whole
abbrev pub report_line : ReportFault → List ℕ
report_line report.Write = io_line
report_line report.Memory = ledger_line ledger.Memory
report_line (report.Ledger fault) = ledger_line fault

-- why a dump was not read to its end, if it was not
abbrev pub stop_lines : Stop → List (List ℕ)
stop_lines End = []
stop_lines (Frame fault) = line_of (fault_text (codes "frame") (frame_number fault)) ∷ []
stop_lines Read = io_line ∷ []
stop_lines ReadLimit = io_line ∷ []
stop_lines (Ledger fault) = ledger_line fault ∷ []

-- So many of these bytes were handed to a writer: all of them, unless a write of the rest failed.
pub record IsHanded {E : Type 0} (contents : E → Option (List ℕ))
    (may_answer : E → List ℕ → Result ℕ Error → E → Type 0) (bytes : List ℕ) (count : ℕ) (old new : E)
    : Type 0 where
  pub within : count ≤ length bytes
  pub grown : Appends (contents old) (contents new) (take count bytes)
  pub fails : count < length bytes
      → (between : E) × FailsToWrite may_answer (drop count bytes) between new

-- A text was said to a writer: the whole of it, unless a write failed.
abbrev pub IsSaid : {E : Type 0} → (E → Option (List ℕ))
    → (E → List ℕ → Result ℕ Error → E → Type 0) → List ℕ → E → E → Type 0
IsSaid contents may_answer text old new = (count : ℕ) × IsHanded contents may_answer text count old new

-- Texts were said one after another. After one that was cut short the next is still begun.
abbrev pub AreSaid : {E : Type 0} → (E → Option (List ℕ))
    → (E → List ℕ → Result ℕ Error → E → Type 0) → List (List ℕ) → E → E → Type 0
AreSaid contents may_answer [] old new = new ≡ old
AreSaid contents may_answer (text ∷ texts) old new =
    (between : _) × IsSaid contents may_answer text old between
    × AreSaid contents may_answer texts between new
