-- The rows of the journal, and what events do to them.
use Rattle.std.specs.Prelude.{ℕ, ◌+◌, Bool, true, false, if◌then◌else◌, List, [], ◌∷◌, ◌++◌, length}
use Rattle.std.specs.Prelude.{Option, Some, None}
use Rattle.std.specs.FinMap.{get, insert, values}
use Rattle.book_model.specs.Std.{option_map_or}
use Rattle.book_model.specs.Words.{Act, CloseOf, Ending, Entry, Event, ImportBegun, ImportEnded}
use Rattle.book_model.specs.Words.{ImportRead, Imported, Importing, Naming, Note, PeriodClosed}
use Rattle.book_model.specs.Words.{Reading, RecordKept, Ruled, RulingGiven, Rulings, kept_by}
use Rattle.book_model.specs.Words.{members}
use Rattle.book_model.specs.Words.{name_of, nothing_read, open_by, place_of}
use Rattle.table_model.specs.Tables.{CameTable, ImportRow, JournalRow, JournalTable, RowAct}
use Rattle.table_model.specs.Tables.{RulingRow}
use Rattle.table_model.specs.UnderNames.{under_names}

-- what the row of an entry is about
abbrev pub act_row : Act → RowAct
act_row (Ruled place) = RulingRow place
act_row (Importing reading kept) = ImportRow reading None (length (members kept))
act_row (Imported reading ending kept) = ImportRow reading (Some ending) (length (members kept))

-- the row of an entry
abbrev pub journal_row : Entry → JournalRow
journal_row entry = record { note = entry.note; act = act_row entry.act }

-- the rows of a journal, the oldest first
abbrev pub journal_rows : List Entry → List JournalRow
journal_rows [] = []
journal_rows (entry ∷ older) = journal_rows older ++ journal_row entry ∷ []

-- the number of its entry for each record that an import kept, by the record's name
abbrev pub came_entries : Naming → List Entry → List (List ℕ × ℕ)
came_entries naming [] = []
came_entries naming (entry ∷ older) =
    under_names naming (length older + 1) (kept_by entry.act) ++ came_entries naming older

-- the number of the newest row
abbrev pub newest_number : JournalTable → ℕ
newest_number rows = length (values rows)

-- the rows with one more, where there is a note
abbrev pub put_entry : Option Note → RowAct → JournalTable → JournalTable
put_entry None act rows = rows
put_entry (Some note) act rows =
    insert rows (newest_number rows + 1) (record { note = note; act = act })

-- the newest row is about something else
abbrev pub change_row : (RowAct → RowAct) → JournalTable → JournalTable
change_row change rows =
    option_map_or
    (λ row. insert rows (newest_number rows) (record row { act = change row.act }))
    (get rows (newest_number rows)) rows

-- an import that goes on keeps one more record, has read more, or ends
abbrev pub keep_row : RowAct → RowAct
keep_row (ImportRow reading None kept) = ImportRow reading None (kept + 1)
keep_row act = act

abbrev pub read_row : Reading → RowAct → RowAct
read_row reading (ImportRow before None kept) = ImportRow reading None kept
read_row reading act = act

abbrev pub end_row : Ending → RowAct → RowAct
end_row ending (ImportRow reading None kept) = ImportRow reading (Some ending) kept
end_row ending act = act

-- the rows after an event, by the rulings before it
abbrev pub journal_changed : Rulings → Event → JournalTable → JournalTable
journal_changed ruled (RecordKept bytes) rows = change_row keep_row rows
journal_changed ruled (PeriodClosed said day) rows =
    put_entry said (RulingRow (CloseOf (open_by ruled))) rows
journal_changed ruled (RulingGiven said ruling) rows =
    put_entry said (RulingRow (place_of ruling ruled)) rows
journal_changed ruled (ImportBegun note) rows =
    put_entry (Some note) (ImportRow nothing_read None 0) rows
journal_changed ruled (ImportRead reading) rows = change_row (read_row reading) rows
journal_changed ruled (ImportEnded ending) rows = change_row (end_row ending) rows

-- an import goes on, by its row
abbrev pub row_goes_on : RowAct → Bool
row_goes_on (ImportRow reading None kept) = true
row_goes_on act = false

-- a record that is kept comes by the newest entry, where its import goes on
abbrev pub came_changed : Naming → Event → JournalTable → CameTable → CameTable
came_changed naming (RecordKept bytes) rows came =
    if option_map_or (λ row. row_goes_on row.act) (get rows (newest_number rows)) false
    then insert came (name_of naming bytes) (newest_number rows)
    else came
came_changed naming event rows came = came
