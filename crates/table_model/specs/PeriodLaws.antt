-- The laws of what is read: charge rows and lines are read back, and what is past stays.
use Rattle.std.specs.Prelude.{◌≡◌, ℕ, List, Some, Ok, ℤ, slice_get}
use Rattle.book_model.specs.declared.answer.Ruled.TheVariants.{Done}
use Rattle.book_model.specs.Words.{IsFramed, Terms, Book, new_book, flat_book, period_of, keep}
use Rattle.book_model.specs.Words.{Ruling, close, give, lines_of, Period, Naming, rows_for}
use Rattle.book_model.specs.Words.{terms_answer, Rulings, with_tariff, IsSound}
use Rattle.table_model.specs.PeriodLists.{rows_read, lines_read, HasLines}
use Rattle.table_model.specs.TablesOf.{tables_of}

-- the charge rows of each period are read back from the tables
abbrev pub RowsFollow : Type 0
RowsFollow =
    (naming : Naming) (book : Book) (number : ℕ) (period : Period)
    → IsSound naming book
    → period_of book number ≡ Some period
    → rows_read number (tables_of naming book).days ≡ rows_for book.rulings period.counted

-- and so are its adjustment lines
abbrev pub LinesFollow : Type 0
LinesFollow =
    (naming : Naming) (book : Book) (number : ℕ) (period : Period)
    → IsSound naming book → HasLines book
    → period_of book number ≡ Some period
    → lines_read number (tables_of naming book) ≡ lines_of naming book.rulings period

-- New books have lines that can be read, and each event keeps them so, if it keeps only records
-- with the descriptor of their data.
pub record LinesStay : Type 0 where
  pub start : HasLines new_book
  pub flat : (terms : Terms) → HasLines (flat_book terms)
  pub keep : (book : Book) (bytes : List ℕ) → HasLines book → IsFramed bytes
      → HasLines (keep bytes book)
  pub close : (book : Book) (day : ℤ) → HasLines book → HasLines (close day book)
  pub ruling : (book : Book) (ruling : Ruling) → HasLines book → HasLines (give ruling book)

-- the rows and lines of a period that are read by some rulings are those read by others
pub record ReadsAlike (naming : Naming) (one other : Rulings) (period : Period) : Type 0 where
  pub rows : rows_for one period.counted ≡ rows_for other period.counted
  pub lines : lines_of naming one period ≡ lines_of naming other period

-- no tariff changes the rows and lines of a closed period
abbrev pub PastStays : Type 0
PastStays =
    (naming : Naming) (book : Book) (text : List ℕ) (terms : Terms) (place : ℕ) (period : Period)
    → IsSound naming book
    → terms_answer book text terms ≡ Ok Done
    → slice_get book.past place ≡ Some period
    → ReadsAlike naming (with_tariff (Some text) terms book.rulings) book.rulings period
