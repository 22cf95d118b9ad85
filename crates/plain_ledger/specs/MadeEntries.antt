-- The entries of the journal of a plain ledger, as they are made of what calls said.
use Rattle.std.specs.Prelude.{ℕ, Bool, true, List, [], ◌∷◌, length, Option, None, Some, Vec, if◌then◌else◌}
use Rattle.std.specs.FinMap as map
use Rattle.std.specs.Global.{Global}
use Rattle.book_model.specs.declared.entry.Arrival.{Arrival}
use Rattle.book_model.specs.declared.note.Note.{Note}
use Rattle.book_model.specs.declared.note.Share.{Share}
use Rattle.book_model.specs.declared.note.Stop.{Stop}
use Rattle.book_model.specs.Journal.{Act, Entry, Imported, Importing, Ruled as RuledAt}
use Rattle.book_model.specs.Journal.{came_by, change_newest, end_with, keep_in, kept_by, read_on}
use Rattle.book_model.specs.Words.{Records, ending_shown, members, note_shown, place_shown}
use Rattle.book_model.specs.Words.{reading_shown, stop_shown, with}
use Rattle.book_core.specs.Submissions.{records_in}
use Rattle.plain_ledger.specs.declared.journal.Said.{Said}
use Rattle.plain_ledger.specs.declared.journal.Said.TheVariants as what
use Rattle.plain_ledger.specs.declared.journal.Standing.{Standing}
use Rattle.plain_ledger.specs.declared.made_entries.MadeAct.{MadeAct}
use Rattle.plain_ledger.specs.declared.made_entries.MadeAct.TheVariants as kind
use Rattle.plain_ledger.specs.declared.made_entries.MadeEntry.{MadeEntry}
use Rattle.plain_ledger.specs.Journals.{place_by}
use Rattle.plain_ledger.specs.Plain.{Entry as HeldEntry, record_of}

-- the set of some records, which came one after another
abbrev pub kept_from : Records → List (List ℕ) → Records
kept_from records [] = records
kept_from records (bytes ∷ later) = kept_from (with records bytes) later

abbrev pub kept_of : List (Vec ℕ Global) → Records
kept_of kept = kept_from map.empty (records_in kept)

-- an entry that was made
abbrev pub act_of : MadeAct → Act
act_of (kind.Ruling place) = RuledAt (place_shown place)
act_of (kind.Going reading kept) = Importing (reading_shown reading) (kept_of kept.items)
act_of (kind.Ended reading ending kept) =
    Imported (reading_shown reading) (ending_shown ending) (kept_of kept.items)

abbrev pub entry_of : MadeEntry → Entry
entry_of made = record { note = note_shown made.note; act = act_of made.act }

-- how many records it kept
abbrev pub count_made : MadeAct → ℕ
count_made act = length (members (kept_by (act_of act)))

-- all of them, the newest first
abbrev pub made_from : List Entry → List MadeEntry → List Entry
made_from entries [] = entries
made_from entries (made ∷ later) = made_from (entry_of made ∷ entries) later

abbrev pub entries_made : List MadeEntry → List Entry
entries_made made = made_from [] made

-- an import ends where it says why, and all its records were taken
abbrev pub end_where : Option Stop → Bool → Act → Act
end_where (Some stop) true act = end_with (stop_shown stop) act
end_where ending whole act = act

-- what a call says begins an entry,
abbrev pub begun_import : Share → Bool → List ℕ → Entry
begun_import share whole bytes = record {
  note = note_shown share.note;
  act = end_where share.ending whole
      (Importing (reading_shown share.reading) (with map.empty bytes));
}

abbrev pub begun_ruling : Note → Standing → Entry
begun_ruling note standing =
    record { note = note_shown note; act = RuledAt (place_by standing) }

abbrev pub begun_by : Said → Option Entry
begun_by (what.Ruling note standing) = Some (begun_ruling note standing)
begun_by (what.Import share whole bytes) =
    if share.begun then None else Some (begun_import share whole bytes.items)
begun_by other = None

-- or changes what the newest is about
abbrev pub change_by : Said → Act → Act
change_by (what.Ruling note standing) act = act
change_by (what.Record bytes) act = keep_in bytes.items act
change_by (what.Import share whole bytes) act =
    end_where share.ending whole (read_on (reading_shown share.reading) (keep_in bytes.items act))
change_by (what.End stop) act = end_with (stop_shown stop) act

-- the entries behind it
abbrev pub joined_by : Option Entry → (Act → Act) → List Entry → List Entry
joined_by (Some entry) change entries = entry ∷ entries
joined_by None change entries = change_newest change entries

-- a record by its name, with the entry by which it came
abbrev pub arrival_made : List MadeEntry → HeldEntry → Arrival
arrival_made made entry =
    record { name = entry.0; entry = came_by (entries_made made) (record_of entry.1) }
