-- What the definitions say about a request, by the book before it: one function.
use Rattle.std.specs.Prelude.{Bool, true, false, List, [], Option, None, Result, Ok, Err}
use Rattle.std.specs.Prelude.{string_bytes}
use Rattle.book_model.specs.declared.fault.LedgerFault.{LedgerFault}
use Rattle.book_model.specs.declared.fault.LedgerFault.TheVariants.{Memory, Store}
use Rattle.book_model.specs.Words.{front, Book, Event, Outcome, note_given, rule_outcome, Naming}
use Rattle.book_core.specs.Calls.{listed}
use Rattle.book_model.specs.declared.note.Stop.{Stop}
use Rattle.book_model.specs.declared.note.Stop.TheVariants.{Ledger}
use Rattle.book_import.specs.Dumps.{stop_after}
use Rattle.book_import.specs.Laws.{import_of_records}
use Rattle.book_reports.specs.BookTexts.{report_outcome}
use Rattle.book_reports.specs.WhatIfTexts.{what_if_report}
use Rattle.office.specs.declared.request.Asked.{Asked}
use Rattle.office.specs.declared.request.Asked.TheVariants.{Import, ImportBytes, Report, Rule}
use Rattle.office.specs.declared.request.Asked.TheVariants.{WhatIf}
use Rattle.office.specs.Requests.{Dump, Response, Ruling, Count, Text, response_outcome, ruling_of}

-- what the books answer, and the events that they make, the newest first
pub record AskedOutcome : Type 0 where
  pub told : Result Response LedgerFault
  pub events : List Event

-- a refusal is no event
abbrev pub events_by : Result Response LedgerFault → Option Event → List Event
events_by (Ok told) event = listed event
events_by (Err fault) event = []

abbrev pub asked_outcome_by : Outcome Response → AskedOutcome
asked_outcome_by outcome =
    record { told = outcome.answer; events = events_by outcome.answer outcome.event }

abbrev pub import_asked_outcome : Naming → Dump → Book → AskedOutcome
import_asked_outcome naming dump book =
    let found = front dump.layout dump.bytes in
    let all = import_of_records naming book (stop_after dump.cut found) found.records in
    record { told = Ok (Count all.receipt); events = all.events }

abbrev pub asked_outcome : Naming → Asked → Dump → Book → AskedOutcome
asked_outcome naming (Rule ruling said) dump book =
    asked_outcome_by
    (response_outcome Ruling (rule_outcome naming (note_given said) (ruling_of ruling)) book)
asked_outcome naming (Import layout said) dump book = import_asked_outcome naming dump book
asked_outcome naming (ImportBytes layout bytes said) dump book = import_asked_outcome naming dump
    book
asked_outcome naming (Report report) dump book =
    asked_outcome_by (response_outcome Text (report_outcome naming report) book)
asked_outcome naming (WhatIf report tariff) dump book =
    asked_outcome_by (response_outcome Text (what_if_report report (string_bytes tariff)) book)

-- a lack of memory or the store stopped an import
abbrev pub is_hindering : Stop → Bool
is_hindering (Ledger Memory) = true
is_hindering (Ledger Store) = true
is_hindering stop = false

-- a lack of memory, or a fault of the store, is in place of the answer; or it stopped an import
abbrev pub is_hindered : Result Response LedgerFault → Bool
is_hindered (Err Memory) = true
is_hindered (Err Store) = true
is_hindered (Ok (Count receipt)) = is_hindering receipt.stop
is_hindered told = false
