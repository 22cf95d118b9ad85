-- The same import twice in a row, and after a stop.
use Rattle.std.specs.Prelude.{◌≡◌, ◌≢◌, ℕ, Bool, false, List, ◌++◌}
use Rattle.book_model.specs.declared.fault.LedgerFault.TheVariants.{DigestClash, Memory, Store}
use Rattle.book_model.specs.Words.{Naming, Book, Event, after_all}
use Rattle.book_import.specs.declared.receipt.Receipt.{Receipt}
use Rattle.book_model.specs.declared.note.Stop.{Stop}
use Rattle.book_model.specs.declared.note.Stop.TheVariants.{Ledger}
use Rattle.book_import.specs.Imports.{Handles}
use Rattle.book_import.specs.Laws.{book_after_import}

-- neither a lack of memory nor the store stopped the import
pub record IsUnhindered (told : Receipt) : Type 0 where
  pub memory : told.stop ≢ Ledger Memory
  pub store : told.stop ≢ Ledger Store

-- Twice is once: if neither a lack of memory nor the store stopped the import of records into open
-- books, the same records imported again leave the books as they are, whatever else stopped either
-- import, even if the books refused a record.
abbrev pub TwiceIsOnce : Type 0
TwiceIsOnce =
    (naming : Naming) (before : Book) (stop again : Stop) (records : List (List ℕ))
    (once twice : Receipt) (first second : List Event) (between is : Bool)
    → Handles naming stop records once false before first between → IsUnhindered once
    → Handles naming again records twice between (after_all first before) second is
    → after_all (second ++ first) before ≡ after_all first before

-- Stops are mended: from each of the books that an import may have left, whatever stopped it, the
-- same records imported again leave the books of one whole import, if that is not stopped by a lack
-- of memory, by the store, or by two records of one name.
abbrev pub StopsAreMended : Type 0
StopsAreMended =
    (naming : Naming) (before : Book) (stop again : Stop) (records : List (List ℕ))
    (once twice : Receipt) (first second : List Event) (between is : Bool)
    → Handles naming stop records once false before first between
    → Handles naming again records twice false (after_all first before) second is
    → IsUnhindered twice → twice.stop ≢ Ledger DigestClash
    → after_all (second ++ first) before ≡ book_after_import naming before stop records
