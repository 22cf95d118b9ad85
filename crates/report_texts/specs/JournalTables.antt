-- The journal as a table of comma-separated values: a heading, and a line for each entry.
use Rattle.std.specs.Prelude.{ℕ, List, [], ◌∷◌, ◌++◌, codes, decimal}
use Rattle.hex.specs.Hex.{encode_lower}
use Rattle.book_model.specs.Journal.{AdoptionOf, ChoiceOf, CloseOf, CreditOf, Note, Place}
use Rattle.book_model.specs.Journal.{Reading, ReplacementOf, TariffOf}
use Rattle.book_model.specs.Words.{ActSeen, EntrySeen, ImportDone, RulingDone}
use Rattle.report_texts.specs.Columns.{newline}
use Rattle.report_texts.specs.JournalLists.{ending_text, entry_time, ruled_words}
use Rattle.report_texts.specs.Tables.{fields_line}

-- the names of the columns
unfoldable pub journal_heading : List ℕ
journal_heading =
    codes "number,time,act,words,digest,length,kept,known,unpriced,other,headers,trailers,lost,"
    ++ codes "continued,damaged,stop,person,file,note" ++ newline

-- what was ruled, in one word, by where it stands
unfoldable pub place_word : Place → List ℕ
place_word (TariffOf day) = codes "TARIFF"
place_word (CloseOf period) = codes "CLOSE"
place_word (ChoiceOf number) = codes "CHOICE"
place_word AdoptionOf = codes "ADOPTION"
place_word (ReplacementOf number) = codes "REPLACEMENT"
place_word (CreditOf number) = codes "CREDIT"

-- the columns of imports say nothing of a ruling
unfoldable pub no_reading : List (List ℕ)
no_reading = [] ∷ [] ∷ [] ∷ [] ∷ [] ∷ [] ∷ [] ∷ [] ∷ [] ∷ [] ∷ [] ∷ [] ∷ []

-- what an import read, and how many usage records that was; and how many others
unfoldable pub usage_fields : Reading → ℕ → List (List ℕ)
usage_fields reading kept =
    encode_lower reading.digest ∷ decimal reading.length ∷ decimal kept ∷ decimal reading.known
    ∷ decimal reading.unpriced ∷ []

unfoldable pub other_fields : Reading → List (List ℕ)
other_fields reading =
    decimal reading.other ∷ decimal reading.headers ∷ decimal reading.trailers ∷ decimal reading.lost
    ∷ decimal reading.continued ∷ decimal reading.damaged ∷ []

-- a ruling has its words, and an import what it read and why it ended
unfoldable pub act_fields : ActSeen → List (List ℕ)
act_fields (RulingDone place found) = place_word place ∷ ruled_words place found ∷ no_reading
act_fields (ImportDone reading ending kept) =
    codes "IMPORT" ∷ [] ∷ usage_fields reading kept ++ other_fields reading
    ++ ending_text ending ∷ []

unfoldable pub note_fields : Note → List (List ℕ)
note_fields note = note.person ∷ note.file ∷ note.remark ∷ []

-- the fields of an entry
unfoldable pub entry_fields : EntrySeen → List (List ℕ)
entry_fields entry =
    decimal entry.number ∷ entry_time entry.note.time ∷ act_fields entry.act
    ++ note_fields entry.note

-- its line
abbrev pub entry_row : EntrySeen → List ℕ
entry_row entry = fields_line (entry_fields entry)
