-- Records that are kept together in one commit, and the entry of the journal that they join: the
-- newest, where its import goes on; or the one that their import begins.
use Rattle.std.specs.Prelude.{◌≡◌, ℕ, ◌+◌, ◌==◌, Bool, List, [], ◌∷◌, length, Option, None, Some}
use Rattle.std.specs.Prelude.{if◌then◌else◌, not, option_map}
use Rattle.std.specs.FinMap.{get}
use Rattle.book_model.specs.declared.answer.Accepted.{Accepted}
use Rattle.book_model.specs.declared.note.Share.{Share}
use Rattle.book_model.specs.Words.{Ending, Entry, Event, ImportBegun, Importing, Note, Reading}
use Rattle.book_model.specs.Words.{Records}
use Rattle.book_model.specs.Words.{goes_on, members, note_shown, nothing_read, read_with}
use Rattle.book_model.specs.Words.{reading_shown, stop_shown}
use Rattle.table_model.specs.JournalRows.{row_goes_on}
use Rattle.table_model.specs.Steps.{put_journal_row, set_sums}
use Rattle.table_model.specs.Tables.{ImportRow, JournalRow, JournalTable, RowAct, Tables}
use Rattle.tree_tables.specs.Answers.{last_number}
use Rattle.tree_tables.specs.JournalColumns.{entry_stored}
use Rattle.table_ledger.specs.declared.groups.Joined.{Joined}
use Rattle.table_ledger.specs.declared.newest.Newest.{Newest}
use Rattle.std.specs.FinMap as fin

-- the number of the entry by which a record comes that is kept: of the newest, where its import goes
-- on
abbrev pub joined_by : List Entry → Option ℕ
joined_by [] = None
joined_by (entry ∷ older) = if goes_on entry.act then Some (length older + 1) else None

-- what an import says before its first record that is kept: that it has begun
abbrev pub begun_event : Note → Bool → List Event
begun_event note begun = if begun then [] else ImportBegun note ∷ []

abbrev pub begun_events : Option Share → List Event
begun_events None = []
begun_events (Some share) = begun_event (note_shown share.note) share.begun

-- a journal with that entry
abbrev pub begun_entry : Note → Bool → List Entry → List Entry
begun_entry note begun entries =
    if begun then entries
    else record { note = note; act = Importing nothing_read fin.empty } ∷ entries

abbrev pub begun_entries : Option Share → List Entry → List Entry
begun_entries None entries = entries
begun_entries (Some share) entries = begun_entry (note_shown share.note) share.begun entries

-- ---- the entry as code has it

-- the newest entry is this one
pub record FindsNewest (tables : Tables) (newest : Newest) : Type 0 where
  pub number : newest.number ≡ last_number tables.journal
  pub entry : option_map entry_stored newest.entry ≡ get tables.journal newest.number

-- an entry that is joined, by its number and its row before the records
abbrev pub joined_entry : Joined → ℕ × JournalRow
joined_entry joined = (
  joined.number,
  record {
    note = note_shown joined.note.now;
    act = ImportRow (reading_shown joined.reading) None joined.kept;
  },
)

-- the newest row, if its import goes on
abbrev pub going_on : ℕ → Option JournalRow → Option (ℕ × JournalRow)
going_on number None = None
going_on number (Some row) = if row_goes_on row.act then Some (number, row) else None

-- the entry that an import begins, after so many others
abbrev pub begun_row : ℕ → Share → ℕ × JournalRow
begun_row number share = (
  number + 1,
  record {
    note = note_shown share.note;
    act = ImportRow (reading_shown share.reading) None 0;
  },
)

-- the one that records join, by what their import says
abbrev pub joining : Option Share → ℕ → Option JournalRow → Option (ℕ × JournalRow)
joining None number found = going_on number found
joining (Some share) number found =
    if share.begun then going_on number found else Some (begun_row number share)

-- what it is about behind them, so many of which were kept
abbrev pub act_renewed : Joined → Option Share → Bool → List Accepted → ℕ → RowAct
act_renewed joined None whole answers more =
    ImportRow (reading_shown joined.reading) None (joined.kept + more)
act_renewed joined (Some share) whole answers more =
    ImportRow (read_with answers (reading_shown share.reading))
    (if whole then option_map stop_shown share.ending else None) (joined.kept + more)

-- the tables with it, if some were kept
abbrev pub renewed : Option Joined → Option Share → Bool → List Accepted → ℕ → Tables → Tables
renewed None import whole answers more tables = tables
renewed (Some joined) import whole answers more tables =
    if more == 0 then tables
    else put_journal_row joined.number (record {
      note = note_shown joined.note.now;
      act = act_renewed joined import whole answers more;
    }) tables

-- the tables with its end
abbrev pub end_step : Joined → Ending → Tables → Tables
end_step joined ending tables =
    put_journal_row joined.number (record {
      note = note_shown joined.note.now;
      act = ImportRow (reading_shown joined.reading) (Some ending) joined.kept;
    }) tables

-- ---- the entry as the journal has it

-- Records join this entry of the journal. Where their import says nothing of itself, the entry has
-- read what is known of it.
pub record JoinsEntry (joined : Joined) (import : Option Share) (entries : List Entry) : Type 0
  where
    pub reading : Reading
    pub kept : Records
    pub older : List Entry
    pub is : entries
        ≡ record { note = note_shown joined.note.now; act = Importing reading kept } ∷ older
    pub number : joined.number ≡ length older + 1
    pub count : joined.kept ≡ length (members kept)
    pub read : import ≡ None → reading_shown joined.reading ≡ reading

-- or none
abbrev pub Joins : Option Joined → Option Share → List Entry → Type 0
Joins None import entries = joined_by entries ≡ None
Joins (Some joined) import entries = JoinsEntry joined import entries

-- what is written of some tables before the sums and the entry are
abbrev pub before_entry : ℕ → ℕ → JournalTable → Tables → Tables
before_entry held amount rows tables = record (set_sums held amount tables) { journal = rows }
