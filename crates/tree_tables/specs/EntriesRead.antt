-- What the row of an entry says, as it is read, and which entry a look finds.
use Rattle.std.specs.Prelude.{◌≡◌, ℕ, pos, Option, option_map, string_bytes}
use Rattle.std.specs.FinMap.{get}
use Rattle.sqlite_value.specs.Order.{Row, column}
use Rattle.sqlite_value.specs.declared.value.Value.TheVariants.{Blob, Int, Text}
use Rattle.book_model.specs.declared.entry.Ending.{Ending}
use Rattle.book_model.specs.declared.note.Note.{Note}
use Rattle.book_model.specs.declared.note.Reading.{Reading}
use Rattle.book_model.specs.Words.{ending_shown, place_shown}
use Rattle.table_model.specs.Tables.{Tables}
use Rattle.tree_tables.specs.JournalColumns.{ending_number, ending_word, entry_stored, import_word}
use Rattle.tree_tables.specs.JournalColumns.{place_number, place_word}
use Rattle.tree_tables.specs.declared.entry_rows.StoredAct.{StoredAct}
use Rattle.tree_tables.specs.declared.entry_rows.StoredAct.TheVariants as stored
use Rattle.tree_tables.specs.declared.entry_rows.StoredEntry.{StoredEntry}

-- the columns are those of the note
pub record SaysNote (row : Row) (note : Note) : Type 0 where
  pub time : column row 1 ≡ Int (pos note.time)
  pub person : column row 2 ≡ Text (string_bytes note.person)
  pub remark : column row 3 ≡ Text (string_bytes note.remark)
  pub file : column row 4 ≡ Text (string_bytes note.file)

-- they are those of what an import has read
pub record SaysReading (row : Row) (reading : Reading) : Type 0 where
  pub digest : column row 7 ≡ Blob reading.digest
  pub length : column row 8 ≡ Int (pos reading.length)
  pub known : column row 10 ≡ Int (pos reading.known)
  pub unpriced : column row 11 ≡ Int (pos reading.unpriced)
  pub other : column row 12 ≡ Int (pos reading.other)
  pub headers : column row 13 ≡ Int (pos reading.headers)
  pub trailers : column row 14 ≡ Int (pos reading.trailers)
  pub lost : column row 15 ≡ Int (pos reading.lost)
  pub continued : column row 16 ≡ Int (pos reading.continued)
  pub damaged : column row 17 ≡ Int (pos reading.damaged)

-- and of an import
pub record SaysImport (row : Row) (reading : Reading) (ending : Option Ending) (kept : ℕ) : Type 0
  where
    pub word : column row 5 ≡ Text import_word
    pub read : SaysReading row reading
    pub count : column row 9 ≡ Int (pos kept)
    pub stop : column row 18 ≡ Text (ending_word (option_map ending_shown ending))
    pub fault : column row 19 ≡ Int (pos (ending_number (option_map ending_shown ending)))

-- or of a ruling, by its place
abbrev pub SaysAct : Row → StoredAct → Type 0
SaysAct row (stored.Ruling place) =
    (column row 5 ≡ Text (place_word (place_shown place)))
    × (column row 6 ≡ Int (place_number (place_shown place)))
SaysAct row (stored.Import reading ending kept) = SaysImport row reading ending kept

-- so the row says the entry
pub record SaysEntry (row : Row) (entry : StoredEntry) : Type 0 where
  pub note : SaysNote row entry.note
  pub act : SaysAct row entry.act

-- the entry of a number, if there is one
abbrev pub FindsEntry : ℕ → Tables → Option StoredEntry → Type 0
FindsEntry number tables found = option_map entry_stored found ≡ get tables.journal number
