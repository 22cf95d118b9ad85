-- The laws of consistent tables: they are the tables of a book that can be read back, and no others
-- are.
use Rattle.std.specs.Prelude.{◌≡◌}
use Rattle.book_model.specs.Words.{Book, Naming}
use Rattle.table_model.specs.BookIn.{book_in}
use Rattle.table_model.specs.Journaled.{IsJournaled}
use Rattle.table_model.specs.Readable.{IsReadable}
use Rattle.table_model.specs.Tables.{Tables}
use Rattle.table_model.specs.TablesOf.{tables_of}
use Rattle.consistent_tables.specs.Consistent.{AreConsistent}

-- the book that consistent tables determine can be read back, and so can its journal,
pub record ConsistentAreReadable : Type 0 where
  pub books :
      (naming : Naming) (tables : Tables) → AreConsistent naming tables
      → IsReadable naming (book_in tables)
  pub journals :
      (naming : Naming) (tables : Tables) → AreConsistent naming tables
      → IsJournaled (book_in tables)

-- and they are its tables
abbrev pub ConsistentAreTables : Type 0
ConsistentAreTables =
    (naming : Naming) (tables : Tables) → AreConsistent naming tables
    → tables ≡ tables_of naming (book_in tables)

-- the tables of a book that can be read back are consistent
abbrev pub ReadableAreConsistent : Type 0
ReadableAreConsistent =
    (naming : Naming) (book : Book) → IsReadable naming book → IsJournaled book
    → AreConsistent naming (tables_of naming book)
