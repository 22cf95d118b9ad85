-- How few rows the journal changes.
use Rattle.std.specs.Prelude.{◌≡◌, ◌≢◌, ℕ, ◌+◌, List, [], ◌∷◌, length}
use Rattle.book_model.specs.Std.{get}
use Rattle.book_model.specs.Words.{Book, Event, ImportBegun, ImportEnded, ImportRead, IsAnswered}
use Rattle.book_model.specs.Words.{IsSound, Naming, Note, RecordKept, after, after_all, name_of}
use Rattle.table_model.specs.Differences.{DifferInAtMost}
use Rattle.table_model.specs.Journaled.{IsJournaled}
use Rattle.table_model.specs.TablesOf.{tables_of}

-- events of an import that goes on: it keeps records, has read more, or ends
abbrev pub OfOneImport : List Event → Type 0
OfOneImport [] = Unit {0}
OfOneImport (RecordKept bytes ∷ older) = OfOneImport older
OfOneImport (ImportRead reading ∷ older) = OfOneImport older
OfOneImport (ImportEnded ending ∷ older) = OfOneImport older
OfOneImport (event ∷ older) = ⊥

-- A record that is kept changes at most four rows, the journal's apart; and by which entry a record
-- came is stored in its own row alone. However many records a group of an import has, it changes
-- one row of the journal: the newest; or, where it begins the import, the next one.
pub record JournalChangesFew : Type 0 where
  pub kept :
      (naming : Naming) (book : Book) (bytes : List ℕ) → IsSound naming book
      → IsAnswered naming (RecordKept bytes) book
      → DifferInAtMost 4 (tables_of naming book) (tables_of naming (after (RecordKept bytes) book))
  pub came :
      (naming : Naming) (book : Book) (bytes name : List ℕ) → IsJournaled book
      → IsAnswered naming (RecordKept bytes) book → name ≢ name_of naming bytes
      → get (tables_of naming (after (RecordKept bytes) book)).came name
      ≡ get (tables_of naming book).came name
  pub group :
      (naming : Naming) (before : Book) (events : List Event) (number : ℕ) → OfOneImport events
      → number ≢ length before.journal
      → get (tables_of naming (after_all events before)).journal number
      ≡ get (tables_of naming before).journal number
  pub first :
      (naming : Naming) (before : Book) (note : Note) (events : List Event) (number : ℕ)
      → OfOneImport events → number ≢ length before.journal + 1
      → get (tables_of naming (after_all events (after (ImportBegun note) before))).journal number
      ≡ get (tables_of naming before).journal number
