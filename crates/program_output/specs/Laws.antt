-- Laws of trials, which follow from the definitions alone.
use Rattle.std.specs.Prelude.{◌≡◌, ℕ, false, List, Option}
use Rattle.sha2.specs.Sha256.{sha256}
use Rattle.book_model.specs.Words.{Layout, front, Terms, Book, flat_book, Event, after_all, Records}
use Rattle.book_model.specs.Words.{by_bytes, set_of}
use Rattle.book_model.specs.declared.note.Stop.{Stop}
use Rattle.book_import.specs.declared.receipt.Receipt.{Receipt}
use Rattle.book_import.specs.Imports.{Imports}
use Rattle.book_import.specs.Receipts.{is_stop_of_books}
use Rattle.book_reports.specs.BookTexts.{dispute_text, open_statement}

-- the bytes that a trial took, and what cut their reading short, if anything did
pub record TakenDump : Type 0 where
  pub layout : Layout
  pub cut : Option Stop
  pub bytes : List ℕ

-- the records of a dump, each once
abbrev pub distinct_records : TakenDump → Records
distinct_records dump = set_of by_bytes (front dump.layout dump.bytes).records

-- A trial's import of a dump answered this receipt and made these events, and no record was
-- refused.
pub record IsWholeImport (terms : Terms) (dump : TakenDump) (told : Receipt) (events : List Event)
    : Type 0 where
  pub booked :
      Imports sha256 dump.layout dump.cut dump.bytes told false (flat_book terms) events false
  pub unrefused : is_stop_of_books told.stop ≡ false

-- the book that a trial's import leaves
abbrev pub trial_book : Terms → List Event → Book
trial_book terms events = after_all events (flat_book terms)

-- Dumps with the same records, each counted once, have the same statement and the same disputes,
-- where the books refuse none: the layout, the segments and the order of the records make no
-- difference, nor how often they come.
abbrev pub SameRecordsSameTexts : Type 0
SameRecordsSameTexts =
    (terms : Terms) (dump other : TakenDump) (told other_told : Receipt)
    (events other_events : List Event)
    → IsWholeImport terms dump told events → IsWholeImport terms other other_told other_events
    → distinct_records dump ≡ distinct_records other
    → (open_statement (trial_book terms events) ≡ open_statement (trial_book terms other_events))
    × (dispute_text (trial_book terms events) ≡ dispute_text (trial_book terms other_events))
