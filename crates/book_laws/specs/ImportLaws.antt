-- The laws of imports: a dump has one receipt, and leaves one book; and what a receipt counts.
use Rattle.std.specs.Prelude.{◌≡◌, ℕ, ◌+◌, List, length, None, Ok, Option}
use Rattle.book_model.specs.JournalLaws.{without_notes}
use Rattle.book_model.specs.Words.{Naming, Book, Event, Note, after_all, members}
use Rattle.book_core.specs.Words.{Books, Seen, IsOpenAt, books, IsTransition}
use Rattle.book_import.specs.declared.receipt.Receipt.{Receipt}
use Rattle.book_model.specs.declared.note.Stop.{Stop}
use Rattle.book_import.specs.Receipts.{counted}
use Rattle.book_import.specs.ImportEntries.{ImportsOf}
use Rattle.book_import.specs.Laws.{book_after_import, import_of_records, IsUnrefused}
use Rattle.book_import.specs.Repeats.{IsUnhindered}
use Rattle.office.specs.Laws.{IsStillOpen}
use Rattle.office.specs.Outcomes.{import_asked_outcome}
use Rattle.office.specs.Requests.{Count, Dump}

-- A dump was imported, with a note or without one, into a ledger that was open with this book, and
-- is open now, on a store that is honest to the end. Neither a lack of memory nor the store
-- stopped the import.
pub record IsImported (said : Option Note) (naming : Naming) (start : Book) (books : Books)
    (dump : Dump) (receipt : Receipt) : Type 0 where
  pub opened : IsOpenAt naming start books.old
  pub still : IsStillOpen books.new
  pub work : IsTransition books.old books.new
      (ImportsOf said books.old.naming dump.layout dump.cut dump.bytes receipt)
  pub unhindered : IsUnhindered receipt

-- The receipt is the definitions' one. The ledger is open with the book after the import: its
-- events are the definitions' ones, but for what it said of itself, and with no note it said
-- nothing.
pub record ImportsAsDefined (said : Option Note) (naming : Naming) (start : Book) (new : Seen)
    (dump : Dump) (receipt : Receipt) : Type 0 where
  pub receipt_is : Ok (Count receipt) ≡ (import_asked_outcome naming dump start).told
  pub made : List Event
  pub records : without_notes made ≡ (import_asked_outcome naming dump start).events
  pub silent : said ≡ None → made ≡ without_notes made
  pub left : IsOpenAt naming (after_all made start) new

-- This holds for every import.
abbrev pub OneReceipt : {L : Type 0} → (L → Seen) → Type 0
OneReceipt {L} seen =
    (said : Option Note) (naming : Naming) (start : Book) (old new : L) (dump : Dump)
    (receipt : Receipt)
    → IsImported said naming start (books seen old new) dump receipt
    → ImportsAsDefined said naming start (seen new) dump receipt

-- A receipt counts as many records as came, if the books refused none and memory did not run out.
-- And the books hold as many records more as it counts as kept, also where they refused one.
pub record ReceiptsCountRecords : Type 0 where
  pub counts :
      (naming : Naming) (before : Book) (stop : Stop) (records : List (List ℕ))
      → IsUnrefused (import_of_records naming before stop records)
      → counted (import_of_records naming before stop records).receipt ≡ length records
  pub grows :
      (naming : Naming) (before : Book) (stop : Stop) (records : List (List ℕ))
      → length (members (book_after_import naming before stop records).held)
      ≡ length (members before.held) + (import_of_records naming before stop records).receipt.kept
