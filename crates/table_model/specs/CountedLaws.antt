-- Laws of the names that are counted: which they are, and how few of them a call changes.
use Rattle.std.specs.Prelude.{◌≡◌, ℕ, true, List, Some, None, Ok, is_some}
use Rattle.std.specs.FinMap.{get}
use Rattle.book_model.specs.declared.answer.Accepted.TheVariants.{Kept}
use Rattle.book_model.specs.declared.answer.Ruled.TheVariants.{Done}
use Rattle.book_model.specs.Words.{Book, IsSound, Naming, RecordChosen, accept_answer, give}
use Rattle.book_model.specs.Words.{chosen_answer, counted_of, has, keep, last_close, name_of}
use Rattle.book_model.specs.Words.{record_named, is_after}
use Rattle.table_model.specs.Differences.{NamesDifferInAtMost}
use Rattle.table_model.specs.Tables.{RecordRow}
use Rattle.table_model.specs.TablesOf.{tables_of}

-- What the names say of the records of a book: a record that is held is counted by some period where
-- its name is among them; each of them is the name of a record that is held; and of the records that
-- are dated after the last close those are counted that are charged.
pub record NamesFollow : Type 0 where
  pub counted :
      (naming : Naming) (book : Book) (bytes : List ℕ) → IsSound naming book
      → has book.held bytes ≡ true
      → is_some (get (tables_of naming book).counted (name_of naming bytes))
      ≡ has (counted_of book) bytes
  pub held :
      (naming : Naming) (book : Book) (name : List ℕ) → IsSound naming book
      → get (tables_of naming book).records name ≡ None
      → get (tables_of naming book).counted name ≡ None
  pub current :
      (naming : Naming) (book : Book) (name : List ℕ) (row : RecordRow) → IsSound naming book
      → get (tables_of naming book).records name ≡ Some row
      → is_after (last_close book.rulings) row.priced.day ≡ true
      → is_some (get (tables_of naming book).counted name) ≡ row.charged

-- a record that is kept changes at most one of them
abbrev pub AtMostOneNameDiffers : Type 0
AtMostOneNameDiffers =
    (naming : Naming) (book : Book) (bytes : List ℕ)
    → IsSound naming book
    → accept_answer naming book bytes ≡ Ok Kept
    → NamesDifferInAtMost 1 (tables_of naming book).counted (tables_of naming (keep bytes book)).counted

-- a choice changes at most two
abbrev pub AtMostTwoNamesDiffer : Type 0
AtMostTwoNamesDiffer =
    (naming : Naming) (book : Book) (name bytes : List ℕ)
    → IsSound naming book
    → record_named naming book.held name ≡ Some bytes
    → chosen_answer book (Some bytes) ≡ Ok Done
    → NamesDifferInAtMost 2 (tables_of naming book).counted
    (tables_of naming (give (RecordChosen bytes) book)).counted
