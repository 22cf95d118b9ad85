-- Why a command did not do what it was asked, what it noticed beside that, and the exit status and the
-- lines on standard error that say so.
use Rattle.std.specs.Prelude.{◌≡◌, ◌⊎◌, ◌+◌, ◌<◌, ◌≤◌, if◌then◌else◌, false, ℕ, List, [], ◌∷◌, ◌++◌}
use Rattle.std.specs.Prelude.{codes, length, take, Option, Some, None, IfSome, Result, Ok, Err, String}
use Rattle.std.specs.Prelude.{string_bytes, IsUtf8}
use Rattle.std.specs.Global.{Global}
use Rattle.std.specs.Io.KnownBytes.{Appends}
use Rattle.std.specs.declared.io.ErrorKind.{ErrorKind}
use Rattle.std.specs.declared.io.ErrorKind.TheVariants.{OutOfMemory}
use Rattle.tariff_rules.specs.Limits.{most_text}
use Rattle.tariff_rules.specs.declared.fault.TariffFault.TheVariants.{Syntax, TooMany}
use Rattle.book_model.specs.declared.fault.LedgerFault.TheVariants as ledger
use Rattle.book_model.specs.declared.note.Stop.{Stop}
use Rattle.book_model.specs.declared.note.Stop.TheVariants.{End}
use Rattle.book_lists.specs.declared.fault.ReportFault.TheVariants as report
use Rattle.command_line.specs.declared.request.Unclear.{Unclear}
use Rattle.command_line.specs.declared.request.Unclear.TheVariants as unclear
use Rattle.named_books.specs.declared.repository.RepositoryFault.{RepositoryFault}
use Rattle.named_books.specs.declared.repository.RepositoryFault.TheVariants as shelf
use Rattle.program_output.specs.declared.names.NamesFault.{NamesFault}
use Rattle.program_output.specs.declared.names.NamesFault.TheVariants as names
use Rattle.program_output.specs.declared.status.Status.{Status}
use Rattle.program_output.specs.declared.status.Status.TheVariants as status
use Rattle.program_output.specs.Messages.{busy_line, far_line, io_line, layout_line, ledger_line}
use Rattle.program_output.specs.Messages.{ledger_message, line_at, line_of, log_line}
use Rattle.program_output.specs.Messages.{no_number_line, report_line, stop_lines, torn_line}
use Rattle.program_output.specs.Messages.{unsound_line}
use Rattle.program_output.specs.Statuses.{ledger_status, log_status, report_status, stop_status}
use Rattle.without_books.specs.declared.command_fault.CommandFault.{CommandFault}
use Rattle.without_books.specs.declared.command_fault.CommandFault.TheVariants as fault
use Rattle.without_books.specs.declared.ended.Ended.{Ended}
use Rattle.without_books.specs.declared.notice.Notice.{Notice}
use Rattle.without_books.specs.declared.notice.Notice.TheVariants as notice

-- the exit status of a fault
abbrev pub fault_status : CommandFault → Status
fault_status fault.Io = status.Io
fault_status fault.Usage = status.Usage
fault_status fault.Number = status.Usage
fault_status fault.Exists = status.Refused
fault_status fault.Busy = status.Store
fault_status (fault.Unclear why) = status.Usage
fault_status fault.Argument = status.Refused
fault_status fault.Amount = status.Usage
fault_status fault.Reason = status.Usage
fault_status (fault.ArgumentAt line) = status.Refused
fault_status (fault.Ledger refused) = ledger_status refused
fault_status (fault.LedgerAt refused line) = ledger_status refused
fault_status (fault.Report refused) = report_status refused
fault_status (fault.Stopped stop) = stop_status stop
fault_status fault.Unsound = status.Store
fault_status fault.Torn = status.Refused
fault_status fault.Far = status.Refused

-- the exit status of what a command came to
abbrev pub came_status : Result (Unit {0}) CommandFault → Status
came_status (Ok done) = status.Done
came_status (Err fault) = fault_status fault

-- of one that went well, but for a dump that had to be whole
abbrev pub unwhole_status : Status → Status
unwhole_status status.Done = status.Store
unwhole_status came = came

-- the same with what was noticed
abbrev pub noticed_status : Option Notice → Status → Status
noticed_status (Some notice.NotWhole) came = unwhole_status came
noticed_status noticed came = came

abbrev pub told_status : Result (Unit {0}) CommandFault → Option Notice → Status
told_status came noticed = noticed_status noticed (came_status came)

-- the exit status of a command, which may have left a log beside the books
abbrev pub status_by : Ended → Status
status_by ended =
    if ended.has_log then log_status (told_status ended.came ended.notice) ended.is_change
    else told_status ended.came ended.notice

-- words that do not say what is asked
abbrev pub unclear_line : Unclear → List ℕ
unclear_line unclear.Choice = codes "error: choose takes either SHA256 or --from FILE\n"
unclear_line unclear.Dump = codes "error: choose takes --dump FILE with --none, and alone\n"
unclear_line unclear.Import =
    codes "error: choose takes --import NUMBER with --none, and alone\n"
unclear_line unclear.Prices = codes "error: trial takes either rates or --tariff FILE\n"
unclear_line unclear.Period = codes "error: PERIOD is a number without a sign or a leading 0\n"
unclear_line unclear.Form = codes "error: bill takes either --csv or --html\n"
unclear_line unclear.Note =
    codes "error: NAME has up to 40 printable characters, and TEXT up to 200\n"

-- words that are no amount, or no reason, of a credit
abbrev pub amount_line : List ℕ
amount_line = codes "error: AMOUNT has four decimals and is not 0\n"

abbrev pub reason_line : List ℕ
reason_line = codes "error: REASON has 1 to 200 printable characters\n"

-- What is said of a fault: one line. Of a rate outside its limits nothing is said.
abbrev pub fault_lines : CommandFault → List (List ℕ)
fault_lines fault.Io = io_line ∷ []
fault_lines fault.Usage = []
fault_lines fault.Number = no_number_line ∷ []
fault_lines fault.Exists = line_of (codes "exists") ∷ []
fault_lines fault.Busy = busy_line ∷ []
fault_lines (fault.Unclear why) = unclear_line why ∷ []
fault_lines fault.Argument = line_of (codes "word") ∷ []
fault_lines fault.Amount = amount_line ∷ []
fault_lines fault.Reason = reason_line ∷ []
fault_lines (fault.ArgumentAt line) = line_at (codes "word") line ∷ []
fault_lines (fault.Ledger refused) = ledger_line refused ∷ []
fault_lines (fault.LedgerAt refused line) = line_at (ledger_message refused) line ∷ []
fault_lines (fault.Report refused) = report_line refused ∷ []
fault_lines (fault.Stopped stop) = stop_lines stop
fault_lines fault.Unsound = unsound_line ∷ []
fault_lines fault.Torn = torn_line ∷ []
fault_lines fault.Far = far_line ∷ []

-- what is said of what a command came to: nothing, where all went well
abbrev pub came_lines : Result (Unit {0}) CommandFault → List (List ℕ)
came_lines (Ok done) = []
came_lines (Err fault) = fault_lines fault

-- What a command noticed beside what it was asked.
abbrev pub notice_line : Notice → List ℕ
notice_line notice.Layout = layout_line
notice_line notice.Far = far_line
notice_line notice.Torn = torn_line
notice_line notice.NotWhole = torn_line

-- nothing is said where it noticed nothing
abbrev pub notice_lines : Option Notice → List (List ℕ)
notice_lines None = []
notice_lines (Some noticed) = notice_line noticed ∷ []

-- a fault comes before a notice
abbrev pub told_lines : Result (Unit {0}) CommandFault → Option Notice → List (List ℕ)
told_lines came noticed = came_lines came ++ notice_lines noticed

-- what a command says on standard error, which may have left a log beside the books
abbrev pub error_lines : Ended → List (List ℕ)
error_lines ended =
    if ended.has_log then told_lines ended.came ended.notice ++ log_line ∷ []
    else told_lines ended.came ended.notice

-- a command that left no log and noticed nothing
abbrev pub without_log : Result (Unit {0}) CommandFault → Ended
without_log came = record { came = came; has_log = false; is_change = false; notice = None }

-- a command that may have found a fault before it opened any books
abbrev pub settled_as : Result Ended CommandFault → Ended
settled_as (Ok ended) = ended
settled_as (Err fault) = without_log (Err fault)

-- a dump was read to its end, or why not
abbrev pub end_of : Stop → Result (Unit {0}) CommandFault
end_of End = Ok tt
end_of stop = Err (fault.Stopped stop)

-- there were no open books, or it was not seen that their closed files hold them
abbrev pub shelf_fault : RepositoryFault → CommandFault
shelf_fault shelf.Io = fault.Io
shelf_fault shelf.Exists = fault.Exists
shelf_fault shelf.Busy = fault.Busy
shelf_fault (shelf.Ledger refused) = fault.Ledger refused
shelf_fault shelf.Unseen = fault.Ledger ledger.Memory

-- how a command ends where that is all that it asks
abbrev pub shelf_end : Result (Unit {0}) RepositoryFault → Result (Unit {0}) CommandFault
shelf_end (Ok done) = Ok done
shelf_end (Err fault) = Err (shelf_fault fault)

-- there was no memory for a result, or this is the fault that it is
abbrev pub IsFaultIn : {A : Type 0} → Result A CommandFault → CommandFault → Type 0
IsFaultIn result why = (why ≡ fault.Ledger ledger.Memory) ⊎ (result ≡ Err why)

-- a file, a socket or the output failed, or there was no memory for it
abbrev pub io_fault : ErrorKind → CommandFault
io_fault OutOfMemory = fault.Ledger ledger.Memory
io_fault kind = fault.Io

-- a file or the output failed, or a file is not there; or there was no memory for it
abbrev pub IsFileFault : CommandFault → Type 0
IsFileFault why = (kind : ErrorKind) × (why ≡ io_fault kind)

-- there was no memory for what is written; or this shows that the output has failed
abbrev pub IsOutputFault : Type 0 → CommandFault → Type 0
IsOutputFault Failed why = (why ≡ fault.Ledger ledger.Memory)
    ⊎ (Failed × (IsFileFault why ⊎ (why ≡ fault.Report report.Write)))

-- the text was written whole; or the output has failed, and has a prefix of it
abbrev pub IsPrinted : List ℕ → Option (List ℕ) → Option (List ℕ) → Type 0
    → Result (Unit {0}) CommandFault → Type 0
IsPrinted text held holds Failed (Ok done) = Appends held holds text
IsPrinted text held holds Failed (Err why) =
    IsOutputFault Failed why × (count : ℕ) × Appends held holds (take count text)

-- why bytes are no text of a tariff: they are too many, or no text at all
abbrev pub IsNoText : List ℕ → CommandFault → Type 0
IsNoText bytes why =
    ((why ≡ fault.Ledger (ledger.TariffRefused TooMany)) × (most_text < length bytes))
    ⊎ ((why ≡ fault.Ledger (ledger.TariffRefused Syntax)) × ¬ (IsUtf8 bytes))

-- The text of a tariff, no longer than such a text may be, from a reader that had these bytes, where that
-- is known: all of them. Or why there is none: the reader failed; or what it gave is no such text, and it
-- gave all, or one byte more than such a text may have.
abbrev pub IsTextOf : Option (List ℕ) → Result (String Global) CommandFault → Type 0
IsTextOf had (Ok text) = (length (string_bytes text) ≤ most_text)
    × IfSome had (λ all. string_bytes text ≡ all)
IsTextOf had (Err why) = IsFileFault why ⊎ ((bytes : List ℕ) × IsNoText bytes why
    × IfSome had (λ all. bytes ≡ take (most_text + 1) all))

-- why there is none
abbrev pub IsTextFault : Option (List ℕ) → CommandFault → Type 0
IsTextFault had why = IsTextOf had (Err why)

-- a list of names has too many, or a line that is none; or there was no memory for them
abbrev pub names_fault : NamesFault → CommandFault
names_fault names.Memory = fault.Ledger ledger.Memory
names_fault (names.Line number) = fault.ArgumentAt number
names_fault names.TooMany = fault.Ledger ledger.Full
