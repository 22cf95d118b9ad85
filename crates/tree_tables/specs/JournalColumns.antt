-- The rows of the journal: the columns in which entries are kept, those of the key first. The row of
-- a ruling ends after its place.
use Rattle.std.specs.Prelude.{ℕ, ℤ, pos, List, [], ◌∷◌, ◌++◌, Option, None, Some}
use Rattle.std.specs.Prelude.{if◌then◌else◌, codes, option_map}
use Rattle.sqlite_value.specs.Order.{Row}
use Rattle.sqlite_value.specs.declared.value.Value.TheVariants.{Blob, Int, Null, Text}
use Rattle.book_model.specs.Journal.{AdoptionOf, AtEnd, AtFrame, AtLedger, AtRead, AtReadLimit}
use Rattle.book_model.specs.Journal.{ChoiceOf, CloseOf, CreditOf, Ending, Note, Place, Reading}
use Rattle.book_model.specs.Journal.{ReplacementOf, TariffOf}
use Rattle.book_model.specs.Words.{ending_shown, note_shown, place_shown, reading_shown, same_bytes}
use Rattle.table_model.specs.Tables.{ImportRow, JournalRow, RowAct, RulingRow}
use Rattle.tree_tables.specs.declared.entry_rows.StoredAct.{StoredAct}
use Rattle.tree_tables.specs.declared.entry_rows.StoredAct.TheVariants as stored
use Rattle.tree_tables.specs.declared.entry_rows.StoredEntry.{StoredEntry}

-- the word for a ruling
abbrev pub place_word : Place → List ℕ
place_word (TariffOf day) = codes "TARIFF"
place_word (CloseOf period) = codes "CLOSE"
place_word (ChoiceOf number) = codes "CHOICE"
place_word AdoptionOf = codes "ADOPTION"
place_word (ReplacementOf number) = codes "REPLACEMENT"
place_word (CreditOf number) = codes "CREDIT"

-- the number under which it stands, which the adoption has none of
abbrev pub place_number : Place → ℤ
place_number (TariffOf day) = day
place_number (CloseOf period) = pos period
place_number (ChoiceOf number) = pos number
place_number AdoptionOf = pos 0
place_number (ReplacementOf number) = pos number
place_number (CreditOf number) = pos number

-- the word for an import
abbrev pub import_word : List ℕ
import_word = codes "IMPORT"

-- why an import ended, in a word, which is empty where it goes on or was cut off
abbrev pub ending_word : Option Ending → List ℕ
ending_word None = []
ending_word (Some AtEnd) = codes "END"
ending_word (Some (AtFrame number)) = codes "FRAME"
ending_word (Some AtRead) = codes "READ"
ending_word (Some AtReadLimit) = codes "READLIMIT"
ending_word (Some (AtLedger number)) = codes "LEDGER"

-- the number of the fault that ended it, or 0
abbrev pub ending_number : Option Ending → ℕ
ending_number (Some (AtFrame number)) = number
ending_number (Some (AtLedger number)) = number
ending_number ending = 0

-- a number that is not below 0
abbrev pub count_of : ℤ → ℕ
count_of (pos n) = n
count_of n = 0

-- the place that a word and a number stand for
abbrev pub place_in : List ℕ → ℤ → Place
place_in word number =
    if same_bytes word (codes "TARIFF") then TariffOf number
    else if same_bytes word (codes "CLOSE") then CloseOf (count_of number)
    else if same_bytes word (codes "CHOICE") then ChoiceOf (count_of number)
    else if same_bytes word (codes "REPLACEMENT") then ReplacementOf (count_of number)
    else if same_bytes word (codes "CREDIT") then CreditOf (count_of number)
    else AdoptionOf

-- the end of an import that they stand for
abbrev pub ending_in : List ℕ → ℕ → Option Ending
ending_in word number =
    if same_bytes word (codes "END") then Some AtEnd
    else if same_bytes word (codes "FRAME") then Some (AtFrame number)
    else if same_bytes word (codes "READ") then Some AtRead
    else if same_bytes word (codes "READLIMIT") then Some AtReadLimit
    else if same_bytes word (codes "LEDGER") then Some (AtLedger number)
    else None

-- the columns of a note
abbrev pub note_columns : Note → Row
note_columns note =
    Int (pos note.time) ∷ Text note.person ∷ Text note.remark ∷ Text note.file ∷ []

-- those of the records of a dump that are no usage records, or were not whole
abbrev pub other_columns : Reading → Row
other_columns reading =
    Int (pos reading.other) ∷ Int (pos reading.headers) ∷ Int (pos reading.trailers)
    ∷ Int (pos reading.lost) ∷ Int (pos reading.continued) ∷ Int (pos reading.damaged) ∷ []

-- those of what an import has read: the digest, the length, what was kept, and the other counts
abbrev pub reading_columns : Reading → ℕ → Row
reading_columns reading kept =
    Blob reading.digest ∷ Int (pos reading.length) ∷ Int (pos kept) ∷ Int (pos reading.known)
    ∷ Int (pos reading.unpriced) ∷ other_columns reading

-- those of why it ended
abbrev pub ending_columns : Option Ending → Row
ending_columns ending = Text (ending_word ending) ∷ Int (pos (ending_number ending)) ∷ []

-- those of what an entry is about
abbrev pub act_columns : RowAct → Row
act_columns (RulingRow place) = Text (place_word place) ∷ Int (place_number place) ∷ []
act_columns (ImportRow reading ending kept) =
    Text import_word ∷ Null ∷ reading_columns reading kept ++ ending_columns ending

-- an entry under its number
abbrev pub journal_columns : ℕ × JournalRow → Row
journal_columns entry =
    Int (pos entry.0) ∷ note_columns entry.1.note ++ act_columns entry.1.act

-- what an entry is about, as code has it
abbrev pub act_stored : StoredAct → RowAct
act_stored (stored.Ruling place) = RulingRow (place_shown place)
act_stored (stored.Import reading ending kept) =
    ImportRow (reading_shown reading) (option_map ending_shown ending) kept

-- an entry that is to be written, and one that was read
abbrev pub entry_given : Note → StoredAct → JournalRow
entry_given note act = record { note = note; act = act_stored act }

abbrev pub entry_stored : StoredEntry → JournalRow
entry_stored entry = entry_given (note_shown entry.note) entry.act
