-- How the program ends, and the exit statuses.
use Rattle.std.specs.Prelude.{ℕ, Bool, true}
use Rattle.std.specs.declared.io.ErrorKind.{ErrorKind}
use Rattle.std.specs.declared.io.ErrorKind.TheVariants.{OutOfMemory}
use Rattle.book_model.specs.declared.fault.LedgerFault.{LedgerFault}
use Rattle.book_model.specs.declared.fault.LedgerFault.TheVariants as ledger
use Rattle.book_model.specs.declared.note.Stop.{Stop}
use Rattle.book_model.specs.declared.note.Stop.TheVariants.{End, Frame, Read, ReadLimit, Ledger}
use Rattle.book_lists.specs.declared.fault.ReportFault.{ReportFault}
use Rattle.book_lists.specs.declared.fault.ReportFault.TheVariants as report
use Rattle.program_output.specs.declared.status.Status.{Status}
use Rattle.program_output.specs.declared.status.Status.TheVariants.{Done, Io, Usage}
use Rattle.program_output.specs.declared.status.Status.TheVariants.{Refused, Store, Memory}

-- the number of each, as the system is told it
abbrev pub code_of : Status → ℕ
code_of Done = 0
code_of Io = 1
code_of Usage = 2
code_of Refused = 3
code_of Store = 4
code_of Memory = 5

-- books that refuse: memory ran out, their store failed, or the request itself was at fault
abbrev pub ledger_status : LedgerFault → Status
ledger_status ledger.Memory = Memory
ledger_status ledger.Store = Store
ledger_status ledger.Reopen = Store
ledger_status ledger.NotBooks = Store
ledger_status ledger.OldForm = Store
ledger_status ledger.NewForm = Store
ledger_status fault = Refused

-- a report that was not written whole
abbrev pub report_status : ReportFault → Status
report_status report.Write = Io
report_status report.Memory = Memory
report_status (report.Ledger fault) = ledger_status fault

-- an import, by its stop
abbrev pub stop_status : Stop → Status
stop_status End = Done
stop_status (Frame fault) = Refused
stop_status Read = Io
stop_status ReadLimit = Io
stop_status (Ledger fault) = ledger_status fault

-- words that could not be taken over: one is not UTF-8, or memory ran out
abbrev pub arguments_status : ErrorKind → Status
arguments_status OutOfMemory = Memory
arguments_status kind = Usage

-- A command that left a log beside the books, by its status and whether it may have changed them: a
-- change that went well is in two files, and their store is at fault for that.
abbrev pub log_status : Status → Bool → Status
log_status Done true = Store
log_status status is_change = status
