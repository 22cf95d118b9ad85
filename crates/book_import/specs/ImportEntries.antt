-- What an import says of itself in the journal: with each change that keeps some of its records,
-- and once it is over.
use Rattle.std.specs.Prelude.{◌≡◌, ℕ, ◌≤◌, Bool, true, false, List, [], ◌∷◌, ◌++◌, length, map}
use Rattle.std.specs.Prelude.{Option, None, Some, is_some}
use Rattle.sha2.specs.Sha256.{sha256}
use Rattle.smf_frames.specs.declared.dump.Layout.{Layout}
use Rattle.streams.specs.InputOutput.{Input}
use Rattle.book_model.specs.JournalLaws.{without_notes}
use Rattle.book_model.specs.Words.{Book, Event, ImportEnded, Naming, Note, Portion, Reading}
use Rattle.book_model.specs.Words.{RecordKept, class_of, front, import_events, stop_shown}
use Rattle.book_model.specs.Words.{told_so_far}
use Rattle.book_model.specs.declared.note.Stop.{Stop}
use Rattle.book_model.specs.declared.note.Stop.TheVariants.{End}
use Rattle.book_core.specs.Ledgers.{Seen}
use Rattle.book_core.specs.Transition.{IsTransition}
use Rattle.book_import.specs.declared.receipt.Receipt.{Receipt}
use Rattle.book_import.specs.Receipts.{count_ahead, counted}
use Rattle.book_import.specs.ReadLimits.{read_length}
use Rattle.book_import.specs.Reach.{IsReadTo}
use Rattle.book_import.specs.Imports.{GivesReceipt, Imports}
use Rattle.book_import.specs.Laws.{import_of_records}
use Rattle.book_import.specs.Repeats.{IsUnhindered}

-- the SHA-256 and the number of some bytes, and what a receipt counts but for the records kept
abbrev pub reading_of : List ℕ → Receipt → Reading
reading_of bytes receipt = record {
  digest = sha256 bytes;
  length = length bytes;
  known = receipt.known;
  unpriced = receipt.unpriced;
  other = receipt.other;
  headers = receipt.headers;
  trailers = receipt.trailers;
  lost = receipt.lost;
  continued = receipt.continued;
  damaged = receipt.damaged;
}

-- the events of the records that changes kept, the newest first
abbrev pub kept_in : List Portion → List Event
kept_in [] = []
kept_in (portion ∷ earlier) = map (λ bytes. RecordKept bytes) portion.kept ++ kept_in earlier

-- What an import said with a change. It had read the first of its bytes; the books had answered to
-- the first of their records, and kept these of them. Those that follow are counted too, but for
-- usage records, which wait for their answers.
pub record IsSaid (naming : Naming) (layout : Layout) (bytes : List ℕ) (before : Book)
    (kept : List Event) (reading : Reading) : Type 0 where
  pub read : List ℕ
  pub later : List ℕ
  pub parts : read ++ later ≡ bytes
  pub answered : List (List ℕ)
  pub waiting : List (List ℕ)
  pub found : answered ++ waiting ≡ (front layout read).records
  pub receipt : Receipt
  pub told : GivesReceipt (import_of_records naming before End answered) receipt kept
  pub counts : reading ≡ reading_of read (count_ahead (map class_of waiting) receipt)

-- so it was with each of its changes, the newest first
abbrev pub AreSaid : Naming → Layout → List ℕ → Book → List Portion → Type 0
AreSaid naming layout bytes before [] = Unit {0}
AreSaid naming layout bytes before (portion ∷ earlier) =
    IsSaid naming layout bytes before (kept_in (portion ∷ earlier)) portion.reading
    × AreSaid naming layout bytes before earlier

-- these events, and the end of the import behind them, if it was said
abbrev pub with_end : Option Stop → List Event → List Event
with_end None events = events
with_end (Some stop) events = ImportEnded (stop_shown stop) ∷ events

-- The events of an import with a note: those of its changes. It has an entry once it kept a record,
-- and the end of an import that has none is not said.
pub record SaidBy (note : Note) (begun : Bool) (ended : Option Stop) (naming : Naming)
    (layout : Layout) (bytes : List ℕ) (before : Book) (made : List Event) : Type 0 where
  pub portions : List Portion
  pub each : AreSaid naming layout bytes before portions
  pub entry : is_some (told_so_far portions) ≡ begun
  pub none : begun ≡ false → ended ≡ None
  pub events : made ≡ with_end ended (import_events note portions)

-- an import without a note says nothing: its events are those of its records
abbrev pub Says : Option Note → Bool → Option Stop → Naming → Layout → List ℕ → Book → List Event
    → Type 0
Says None begun ended naming layout bytes before made = without_notes made ≡ made
Says (Some note) begun ended naming layout bytes before made =
    SaidBy note begun ended naming layout bytes before made

-- The import is over. If it has an entry, that has ended as the receipt says, unless memory or the
-- store failed.
pub record SaysAll (import : Option Note) (naming : Naming) (layout : Layout) (bytes : List ℕ)
    (told : Receipt) (before : Book) (made : List Event) : Type 0 where
  pub begun : Bool
  pub ended : Option Stop
  pub says : Says import begun ended naming layout bytes before made
  pub over : is_some import ≡ true → begun ≡ true → IsUnhindered told → ended ≡ Some told.stop

-- The import of these bytes, whose reading something may have cut short, with what it says of
-- itself: but for that, its events are those of its records.
pub record ImportsOf (import : Option Note) (naming : Naming) (layout : Layout)
    (cut : Option Stop) (bytes : List ℕ) (told : Receipt) (was : Bool) (before : Book)
    (made : List Event) (is : Bool) : Type 0 where
  pub booked : Imports naming layout cut bytes told was before (without_notes made) is
  pub says : SaysAll import naming layout bytes told before made

-- Bytes were taken from a reader, up to the stop and no further, in at most so many reads that ask
-- for at most so many of them, and were imported into a ledger with what the import says.
abbrev pub BooksInputOf : Option Note → ℕ → Layout → ℕ → Seen → Seen → Option Stop → Input
    → Receipt → Type 0
BooksInputOf import most layout allowed old new cut input told =
    (bytes : List ℕ) × IsReadTo import most layout allowed bytes told input
    × IsTransition old new (ImportsOf import old.naming layout cut bytes told)

-- Bytes were imported into a ledger by parts as long as a read. The books are as these first bytes
-- leave them, and the receipt counts at least as many records as were whole before the last part.
pub record BooksInPieces (import : Option Note) (layout : Layout) (bytes : List ℕ)
    (old new : Seen) (told : Receipt) : Type 0 where
  pub before : List ℕ
  pub last : List ℕ
  pub later : List ℕ
  pub parts : bytes ≡ (before ++ last) ++ later
  pub piece : length last ≤ read_length
  pub counts : length (front layout before).records ≤ counted told
  pub booked : IsTransition old new (ImportsOf import old.naming layout None (before ++ last) told)
