-- Entries of the journal as ledgers return them.
use Rattle.std.specs.Prelude.{IfSome, Option, Some, None, option_map}
use Rattle.book_model.specs.declared.entry.ListedAct.{ListedAct}
use Rattle.book_model.specs.declared.entry.ListedAct.TheVariants as listed
use Rattle.book_model.specs.declared.entry.ListedEntry.{ListedEntry}
use Rattle.book_model.specs.JournalLists.{ActSeen, EntrySeen, ImportDone, RulingDone}
use Rattle.book_model.specs.Notes.{ending_shown, note_shown, place_shown, reading_shown}
use Rattle.book_model.specs.RulingLists.{ShowsDays, ruling_shown}

abbrev pub act_listed : ListedAct → ActSeen
act_listed (listed.Ruling place found) =
    RulingDone (place_shown place) (option_map ruling_shown found)
act_listed (listed.Import reading ending kept) =
    ImportDone (reading_shown reading) (option_map ending_shown ending) kept

-- an entry as a ledger returns it
abbrev pub entry_shown : ListedEntry → EntrySeen
entry_shown entry = record {
  number = entry.number;
  note = note_shown entry.note;
  act = act_listed entry.act;
}

-- the days that its ruling shows are days
abbrev pub ShowsActDays : ListedAct → Type 0
ShowsActDays (listed.Ruling place found) = ShowsDays found
ShowsActDays (listed.Import reading ending kept) = Unit {0}

-- those that an entry shows, if one was found
abbrev pub ShowsEntryDays : Option ListedEntry → Type 0
ShowsEntryDays found = IfSome found (λ entry. ShowsActDays entry.act)
