-- The law of the records that a close posts otherwise than the one before it: the open period has
-- all of them in its charge rows or among its lines.
use Rattle.std.specs.Prelude.{◌≡◌, ℕ, ℤ, Bool, false, if◌then◌else◌, List, Option, Some}
use Rattle.std.specs.FinMap.{contains_key, get}
use Rattle.book_model.specs.Words.{is_after, Book, IsSound, Naming, last_close, open_number}
use Rattle.table_model.specs.Tables.{RecordRow, Tables}
use Rattle.table_model.specs.TablesOf.{tables_of}

-- The open period touches a record: one that is dated after the last close where charge rows count
-- it, and any other where it has a line of it.
abbrev pub is_touched : ℕ → Option ℤ → Tables → List ℕ → RecordRow → Bool
is_touched period last tables name row =
    if is_after last row.priced.day then contains_key tables.counted name
    else contains_key tables.lines (period, name)

-- each record that the open period does not touch is charged as the last close posted it
abbrev pub PostsTouched : ℕ → Option ℤ → Tables → Type 0
PostsTouched period last tables =
    (name : List ℕ) (row : RecordRow) → get tables.records name ≡ Some row
    → is_touched period last tables name row ≡ false → row.posted ≡ row.charged

-- so it is in the tables of a book
abbrev pub PostsFew : Type 0
PostsFew =
    (naming : Naming) (book : Book) → IsSound naming book
    → PostsTouched (open_number book) (last_close book.rulings) (tables_of naming book)
