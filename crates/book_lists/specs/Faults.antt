-- A report's faults: their numbers, and what a refusal of the books is.
use Rattle.std.specs.Prelude.{ℕ}
use Rattle.book_model.specs.declared.fault.LedgerFault.{LedgerFault}
use Rattle.book_model.specs.declared.fault.LedgerFault.TheVariants as ledger
use Rattle.book_lists.specs.declared.fault.ReportFault.{ReportFault}
use Rattle.book_lists.specs.declared.fault.ReportFault.TheVariants.{Write, Memory, Ledger}

-- the number that messages show
abbrev pub report_number : ReportFault → ℕ
report_number Write = 1
report_number Memory = 2
report_number (Ledger fault) = 3

-- what a refusal of the books is to a report: out of memory has one form, whoever met it
abbrev pub report_fault_of : LedgerFault → ReportFault
report_fault_of ledger.Memory = Memory
report_fault_of fault = Ledger fault
