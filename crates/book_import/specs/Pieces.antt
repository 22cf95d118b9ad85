-- What becomes of the records of a dump that is submitted to the books piece by piece. These are
-- words of the code alone.
use Rattle.std.specs.Prelude.{◌≡◌, ℕ, ◌+◌, ◌≤◌, Bool, true, false, List, ◌++◌, length, Option}
use Rattle.std.specs.Prelude.{Some, None, IfSome, unwrap_or}
use Rattle.smf_frames.specs.declared.dump.Layout.{Layout}
use Rattle.book_model.specs.JournalLaws.{unjournaled, without_notes}
use Rattle.book_model.specs.Words.{front, Joining, HasTaken, Naming, Book, Event, after_all}
use Rattle.book_model.specs.declared.fault.LedgerFault.TheVariants.{Store}
use Rattle.book_core.specs.Ledgers.{Seen}
use Rattle.book_core.specs.Transition.{IsTransition, Transition}
use Rattle.book_import.specs.declared.receipt.Receipt.{Receipt}
use Rattle.book_model.specs.declared.note.Stop.{Stop}
use Rattle.book_model.specs.declared.note.Stop.TheVariants.{Ledger}
use Rattle.book_import.specs.declared.import_entry.ImportEntry.{ImportEntry}
use Rattle.book_import.specs.Dumps.{frame_stop}
use Rattle.book_import.specs.Receipts.{counted}
use Rattle.book_import.specs.Reach.{is_early_stop}
use Rattle.book_import.specs.Handled.{Imported, answers_of, handle_all, nothing_imported}
use Rattle.book_import.specs.Imports.{Imports}
use Rattle.book_import.specs.ImportEntries.{Says}
use Rattle.book_import.specs.EntryWork.{HasRead, note_of}

-- this receipt, with these events on the book before them
abbrev pub imported_with : Receipt → Book → List Event → Imported
imported_with receipt before events =
    record { receipt = receipt; book = after_all events before; events = events }

-- Whatever comes after the first records, handling them leads to this receipt and these events.
-- The books are open or not as they were.
pub record LeadsTo (naming : Naming) (first : List (List ℕ)) (receipt : Receipt) (was : Bool)
    (before : Book) (events : List Event) (is : Bool) : Type 0 where
  pub same : is ≡ was
  pub leads : (stop : Stop) (rest : List (List ℕ))
      → handle_all (answers_of was naming) stop (first ++ rest) (nothing_imported before)
      ≡ handle_all (answers_of was naming) stop rest (imported_with receipt before events)

-- after the first work: together with that, the work is such
abbrev pub Follows : Transition → Transition → Transition
Follows First Made was before events is =
    (begun : Book) (early : List Event) → before ≡ after_all early begun
    → First was begun early was → Made was begun (events ++ early) is

-- Work on records, as books without a journal see it; and what the import has said by then.
pub record Saying (Said : Book → List Event → Type 0) (Made : Transition) (was : Bool)
    (before : Book) (made : List Event) (is : Bool) : Type 0 where
  pub records : Made was (unjournaled before) (without_notes made) is
  pub said : Said before made

-- what the import has said by now
abbrev pub SaysSo : ImportEntry → Naming → Layout → List ℕ → Book → List Event → Type 0
SaysSo entry naming layout bytes =
    Says (note_of entry) entry.begun entry.ended naming layout bytes

-- where it stops: after a fault of the store only the next open shows what it has said
abbrev pub SaysAt : Stop → ImportEntry → Naming → Layout → List ℕ → Book → List Event → Type 0
SaysAt (Ledger Store) entry naming layout bytes before made =
    (begun : Bool) × (ended : Option Stop)
    × Says (note_of entry) begun ended naming layout bytes before made
SaysAt stop entry naming layout bytes before made = SaysSo entry naming layout bytes before made

-- the records of a text led to this receipt, and the import has said so much
abbrev pub LeadsSaying : ImportEntry → Naming → Layout → List ℕ → Receipt → Transition
LeadsSaying entry naming layout text receipt =
    Saying (SaysSo entry naming layout text) (LeadsTo naming (front layout text).records receipt)

-- the import of a text was stopped, whatever bytes follow and whatever cuts their reading short
abbrev pub StopsAt : Naming → Layout → List ℕ → Receipt → Transition
StopsAt naming layout text told was before events is = (more : List ℕ) (cut : Option Stop)
    → Imports naming layout cut (text ++ more) told was before events is

-- a piece after a text was handled: all of it, or up to a stop
abbrev pub HandlesPiece : Naming → Layout → List ℕ → List ℕ → ImportEntry → ImportEntry → Receipt
    → Receipt → Option Stop → Transition
HandlesPiece naming layout text piece entry after old new None =
    Follows (LeadsSaying entry naming layout text old)
    (LeadsSaying after naming layout (text ++ piece) new)
HandlesPiece naming layout text piece entry after old new (Some stop) =
    Follows (LeadsSaying entry naming layout text old)
    (Saying (SaysAt stop after naming layout (text ++ piece))
    (StopsAt naming layout (text ++ piece) (record new { stop = stop })))

-- the records that a piece completes in a joiner were submitted to a ledger: whatever text the
-- joiner took before it, and the import had read, the piece was handled so
abbrev pub BooksPiece : Seen → Seen → Joining → List ℕ → ImportEntry → ImportEntry → Receipt
    → Receipt → Option Stop → Type 0
BooksPiece old new joiner piece entry after was told result =
    (text : List ℕ) → HasTaken text joiner → HasRead text entry
    → IsTransition old new
    (HandlesPiece old.naming joiner.layout text piece entry after was told result)

-- the end that was said is the stop: that of the piece, or of the text that ends with it
abbrev pub SaidEnd : Layout → List ℕ → Option Stop → ImportEntry → Type 0
SaidEnd layout text result entry =
    IfSome entry.ended (λ said. said ≡ unwrap_or result (frame_stop (front layout text).fault))

-- each record that a piece completes after a text was counted; or the import was stopped early
abbrev pub CountsPiece : Layout → List ℕ → List ℕ → Receipt → Receipt → Option Stop → Type 0
CountsPiece layout text piece old new None =
    length (front layout (text ++ piece)).records + counted old
    ≤ length (front layout text).records + counted new
CountsPiece layout text piece old new (Some stop) =
    (is_early_stop (front layout (text ++ piece)) stop ≡ true) × (counted old ≤ counted new)

-- a joiner took all of a piece that breaks no front, and holds no record
pub record TakesAll (old : Joining) (piece : List ℕ) (new : Joining) : Type 0 where
  pub layout_is : new.layout ≡ old.layout
  pub none : new.ready ≡ None
  pub stands : (text : List ℕ) → HasTaken text old → HasTaken (text ++ piece) new
  pub whole : (text : List ℕ) → HasTaken text old
      → (front old.layout (text ++ piece)).is_broken ≡ false
