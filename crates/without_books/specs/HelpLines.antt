-- What is said of a fault to people, where standard error is a terminal: below the lines that the formats
-- fix, and never in their place.
use Rattle.std.specs.Prelude.{◌≡◌, ◌==◌, if◌then◌else◌, ℕ, List, [], ◌++◌, length, codes, Option}
use Rattle.std.specs.Prelude.{Some, None, decimal}
use Rattle.std.specs.declared.io.ErrorKind.{ErrorKind}
use Rattle.std.specs.declared.io.ErrorKind.TheVariants.{NotFound, NotADirectory, PermissionDenied}
use Rattle.std.specs.declared.io.ErrorKind.TheVariants.{ReadOnlyFilesystem, IsADirectory, AddrInUse}
use Rattle.tariff_rules.specs.declared.tariff.entry.Entry.{Entry}
use Rattle.tariff_rules.specs.declared.tariff.entry.Entry.TheVariants.{Shift, Centre}
use Rattle.book_model.specs.Words.{frame_number, tariff_number, ledger_number}
use Rattle.book_model.specs.declared.fault.LedgerFault.{LedgerFault}
use Rattle.book_model.specs.declared.note.Stop.{Stop}
use Rattle.book_lists.specs.declared.fault.ReportFault.{ReportFault}
use Rattle.book_lists.specs.declared.fault.ReportFault.TheVariants as report
use Rattle.program_output.specs.Causes.{cause_text}
use Rattle.program_output.specs.Explanations.{Explains}
use Rattle.program_output.specs.declared.causes.Cause.{Cause}
use Rattle.program_output.specs.declared.explanations.Explanation.{Explanation}
use Rattle.program_output.specs.declared.words.WordKind.{WordKind}
use Rattle.without_books.specs.ShownPaths.{plain_bytes, shown_path}
use Rattle.without_books.specs.declared.command_fault.CommandFault.{CommandFault}
use Rattle.without_books.specs.declared.help_lines.Topic.{Topic}
use Rattle.without_books.specs.declared.notice.Notice.{Notice}
use Rattle.without_books.specs.declared.places.Place.{Place}
use Rattle.without_books.specs.declared.places.Spot.{Spot}
use Rattle.without_books.specs.declared.places.Within.{Within}
use Rattle.book_model.specs.declared.fault.LedgerFault.TheVariants as ledger
use Rattle.book_model.specs.declared.note.Stop.TheVariants as stop
use Rattle.program_output.specs.declared.causes.Cause.TheVariants as cause
use Rattle.program_output.specs.declared.explanations.FaultKind.TheVariants as kind
use Rattle.program_output.specs.declared.words.WordKind.TheVariants as word
use Rattle.without_books.specs.declared.command_fault.CommandFault.TheVariants as fault
use Rattle.without_books.specs.declared.notice.Notice.TheVariants as notice
use Rattle.without_books.specs.declared.places.Place.TheVariants as place
use Rattle.without_books.specs.declared.places.Within.TheVariants as within

-- the cause, by what the system answered; a path through what is no folder leads nowhere
abbrev pub cause_of : ErrorKind → Cause
cause_of NotFound = cause.Missing
cause_of NotADirectory = cause.Missing
cause_of PermissionDenied = cause.Denied
cause_of ReadOnlyFilesystem = cause.Denied
cause_of IsADirectory = cause.Folder
cause_of AddrInUse = cause.Taken
cause_of _ = cause.Failed

-- a word of standard error that has no number
abbrev pub word_topic : WordKind → Topic
word_topic what = record { kind = kind.Word what; number = 0 }

-- a refusal of the books; of a text that is no tariff, the fault of the tariff
abbrev pub ledger_topic : LedgerFault → Topic
ledger_topic (ledger.TariffRefused refused) =
    record { kind = kind.Tariff; number = tariff_number refused }
ledger_topic refused = record { kind = kind.Ledger; number = ledger_number refused }

-- a report that was not written whole
abbrev pub report_topic : ReportFault → Topic
report_topic report.Write = word_topic word.Io
report_topic report.Memory = ledger_topic ledger.Memory
report_topic (report.Ledger refused) = ledger_topic refused

-- why a dump was not read to its end, if it was not
abbrev pub stop_topic : Stop → Option Topic
stop_topic stop.End = None
stop_topic (stop.Frame broken) = Some (record { kind = kind.Frame; number = frame_number broken })
stop_topic stop.Read = Some (word_topic word.Io)
stop_topic stop.ReadLimit = Some (word_topic word.Io)
stop_topic (stop.Ledger refused) = Some (ledger_topic refused)

-- what `explain` is asked of a fault, unless its line says all
abbrev pub fault_topic : CommandFault → Option Topic
fault_topic fault.Io = Some (word_topic word.Io)
fault_topic fault.Usage = None
fault_topic fault.Number = None
fault_topic fault.Exists = Some (word_topic word.Exists)
fault_topic fault.Busy = Some (word_topic word.Busy)
fault_topic (fault.Unclear why) = None
fault_topic fault.Argument = Some (word_topic word.Word)
fault_topic fault.Amount = None
fault_topic fault.Reason = None
fault_topic (fault.ArgumentAt line) = Some (word_topic word.Word)
fault_topic (fault.Ledger refused) = Some (ledger_topic refused)
fault_topic (fault.LedgerAt refused line) = Some (ledger_topic refused)
fault_topic (fault.Report refused) = Some (report_topic refused)
fault_topic (fault.Stopped why) = stop_topic why
fault_topic fault.Unsound = Some (word_topic word.Unsound)
fault_topic fault.Torn = Some (word_topic word.Torn)
fault_topic fault.Far = Some (word_topic word.Far)

-- what it is asked of a notice
abbrev pub notice_topic : Notice → Topic
notice_topic notice.Layout = word_topic word.Layout
notice_topic notice.Far = word_topic word.Far
notice_topic notice.Torn = word_topic word.Torn
notice_topic notice.NotWhole = word_topic word.Torn

-- what a fault is about, in the words of the command
abbrev pub place_text : Place → List ℕ
place_text (place.File path) = shown_path path.now
place_text (place.Beside path ending) = shown_path path.now ++ ending.now
place_text (place.Port number) = codes "port " ++ decimal number
place_text place.Input = codes "standard input"
place_text place.Output = codes "standard output"

-- the entry of a tariff file
abbrev pub entry_text : Entry → List ℕ
entry_text (Shift number) = codes ", shift " ++ decimal number
entry_text (Centre number) = codes ", centre " ++ decimal number

-- where in a tariff file or a list
abbrev pub within_text : Option Within → List ℕ
within_text (Some (within.Line number)) = codes ", line " ++ decimal number
within_text (Some (within.Entry entry)) = entry_text entry
within_text None = []

-- what a line of a list says, as far as it is known
abbrev pub line_text : List ℕ → List ℕ
line_text line = if length line == 0 then [] else codes ": " ++ plain_bytes line

-- why, as far as it is known
abbrev pub why_text : Option Cause → List ℕ
why_text (Some why) = codes ": " ++ cause_text why
why_text None = []

-- Each line is set in below those that the formats fix.
abbrev pub help_line : List ℕ → List ℕ
help_line text = codes "  " ++ text ++ codes "\n"

-- where a fault is, what stands there, and why
abbrev pub spot_line : Spot → List ℕ → List ℕ
spot_line spot line =
    help_line (place_text spot.place ++ within_text spot.within ++ line_text line ++ why_text spot.cause)

-- what `explain` says, a line each
abbrev pub topic_lines : Option Explanation → List ℕ
topic_lines (Some told) = help_line told.meaning.now ++ help_line told.advice.now
topic_lines None = []

-- what `explain` says of a topic was added
pub record TellsTopic (topic : Topic) (held holds : List ℕ) : Type 0 where
  pub told : Option Explanation
  pub explains : Explains topic.kind topic.number told
  pub lines : holds ≡ held ++ topic_lines told
