-- The laws of books that calls made: each call keeps them so, and they are read back from their
-- tables.
use Rattle.std.specs.Prelude.{◌≡◌}
use Rattle.book_model.specs.Words.{Book, IsAnswered, new_book, Event, after, Naming}
use Rattle.table_model.specs.TablesOf.{tables_of}
use Rattle.table_model.specs.BookIn.{book_in}
use Rattle.table_model.specs.FromCalls.{IsFromCalls, IsSubmittedTo}
use Rattle.table_model.specs.Journaled.{IsJournaled}
use Rattle.table_model.specs.Readable.{IsReadable}

-- New books are made by calls, namely none; and each call that is an event leaves such books.
pub record CallsStay : Type 0 where
  pub start : (naming : Naming) → IsFromCalls naming new_book
  pub stay :
      (naming : Naming) (book : Book) (event : Event) → IsFromCalls naming book
      → IsSubmittedTo book event → IsAnswered naming event book
      → IsFromCalls naming (after event book)

-- books that calls made can be read back, and their journals too
pub record CallsRead : Type 0 where
  pub books : (naming : Naming) (book : Book) → IsFromCalls naming book → IsReadable naming book
  pub journals : (naming : Naming) (book : Book) → IsFromCalls naming book → IsJournaled book

-- the book is read back from its tables
abbrev pub BookFollows : Type 0
BookFollows =
    (naming : Naming) (book : Book) → IsReadable naming book → IsJournaled book
    → book_in (tables_of naming book) ≡ book

-- so books that calls made and that have the same tables are equal
abbrev pub TablesDetermine : Type 0
TablesDetermine =
    (naming : Naming) (one other : Book) → IsReadable naming one → IsReadable naming other
    → IsJournaled one → IsJournaled other
    → tables_of naming one ≡ tables_of naming other → one ≡ other
