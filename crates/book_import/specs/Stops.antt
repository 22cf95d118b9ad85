-- What the stop of an import says about the books.
use Rattle.std.specs.Prelude.{◌≡◌, ◌≢◌, ◌⊎◌, ℕ, Bool, true, false, List, []}
use Rattle.std.specs.List.{list_any}
use Rattle.book_model.specs.Words.{class_of, Naming, Book, Event}
use Rattle.book_model.specs.declared.fault.LedgerFault.TheVariants.{Memory, Store, Reopen}
use Rattle.book_import.specs.declared.receipt.Receipt.{Receipt}
use Rattle.book_model.specs.declared.note.Stop.{Stop}
use Rattle.book_model.specs.declared.note.Stop.TheVariants.{Ledger}
use Rattle.book_import.specs.Receipts.{is_stop_of_books}
use Rattle.book_import.specs.Imports.{Handles}
use Rattle.book_import.specs.Laws.{is_class_of_usage}

-- a usage record is among these
abbrev pub has_usage : List (List ℕ) → Bool
has_usage records = list_any (λ bytes. is_class_of_usage (class_of bytes)) records

-- The import of books that were to be reopened: they stay so, no event is made, and a usage record
-- is answered Reopen, unless memory ran out before it.
pub record StaysToReopen (records : List (List ℕ)) (told : Receipt) (events : List Event) (is : Bool)
    : Type 0 where
  pub stays : is ≡ true
  pub none : events ≡ []
  pub reopen : has_usage records ≡ true
      → (told.stop ≡ Ledger Reopen) ⊎ (told.stop ≡ Ledger Memory)
  pub no_store : told.stop ≢ Ledger Store

-- The import of open books: they are to be reopened now exactly if the stop is Store, and no
-- record is answered Reopen.
pub record ShowsStoreFault (told : Receipt) (is : Bool) : Type 0 where
  pub store : told.stop ≡ Ledger Store → is ≡ true
  pub fails : is ≡ true → told.stop ≡ Ledger Store
  pub no_reopen : told.stop ≢ Ledger Reopen

-- If the stop after the last record is that of a dump, the receipt's stop shows whether a store
-- failed, and whether the books were to be reopened.
pub record StopsShowFaults : Type 0 where
  pub closed :
      (naming : Naming) (stop : Stop) (records : List (List ℕ)) (told : Receipt) (before : Book)
      (events : List Event) (is : Bool) → is_stop_of_books stop ≡ false
      → Handles naming stop records told true before events is
      → StaysToReopen records told events is
  pub open_books :
      (naming : Naming) (stop : Stop) (records : List (List ℕ)) (told : Receipt) (before : Book)
      (events : List Event) (is : Bool) → is_stop_of_books stop ≡ false
      → Handles naming stop records told false before events is
      → ShowsStoreFault told is
