-- The text of a record, with the entry of the journal by which it came.
use Rattle.std.specs.Prelude.{ℕ, ◌-◌, ◌==◌, if◌then◌else◌, List, Option, Some, None, Result, Ok}
use Rattle.std.specs.Prelude.{slice_get}
use Rattle.std.specs.Option.{option_and_then}
use Rattle.book_model.specs.declared.entry.Arrival.{Arrival}
use Rattle.book_model.specs.declared.fault.LedgerFault.{LedgerFault}
use Rattle.book_model.specs.Words.{Book, EntrySeen, Naming, Outcome, arrival_from, arrivals}
use Rattle.book_model.specs.Words.{came_under, entries_listed, no_event, trail_outcome}
use Rattle.report_texts.specs.RecordTexts.{record_text}
use Rattle.book_lists.specs.Shown.{shown_by}

-- how many entries stand before the one of a number; there is none of number 0
abbrev pub number_before : ℕ → Option ℕ
number_before number = if number == 0 then None else Some (number - 1)

-- the entry after so many, if there is one
abbrev pub entry_after : Naming → Book → ℕ → Option EntrySeen
entry_after naming book before = slice_get (entries_listed naming book.rulings book.journal) before

-- the entry by which the record of a name came, if it came by one
abbrev pub came_entry : Naming → Book → List ℕ → Option EntrySeen
came_entry naming book name =
    option_and_then (entry_after naming book) (number_before (came_under naming book name))

-- what a book answers to a report of the record of a name
abbrev pub record_answer : Naming → List ℕ → Book → Result (List ℕ) LedgerFault
record_answer naming name book =
    shown_by (record_text name (came_entry naming book name)) (trail_outcome naming name book).answer

-- how many entries stand before the one by which a record came, if one was found
abbrev pub before_found : Option Arrival → Option ℕ
before_found None = None
before_found (Some arrival) = number_before arrival.entry

-- the entry by which the first record from a name on came
abbrev pub found_entry : Naming → List ℕ → Book → Option EntrySeen
found_entry naming name book =
    option_and_then (entry_after naming book)
    (before_found (arrival_from name (arrivals naming book)))

abbrev pub found_entry_outcome : Naming → List ℕ → Book → Outcome (Option EntrySeen)
found_entry_outcome naming name book = no_event (Ok (found_entry naming name book))
