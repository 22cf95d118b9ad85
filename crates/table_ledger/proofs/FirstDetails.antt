-- The details that the rows and the lines of a book of the first form tell are those of the book.
use Rattle.std.proofs.Common.{◌≡◌, ◌∙◌, ◌+◌, ℕ, ap, length, sym, ℤ}
use Rattle.book_model.proofs.Std.{length-map, entries}
use Rattle.book_model.specs.Words.{Book, Naming, by_bytes, set_of}
use Rattle.table_model.specs.Words.{first_line, IsReadable, Tables, tables_of}
use Rattle.table_model.proofs.CountedFirst.{names_told}
use Rattle.table_model.proofs.UnderNumbers.{values-numbers}
use Rattle.table_ledger.specs.OldForms.{names_by, open_read, uncounted, with_details}

-- there is one period more than closes
open_of : (naming : Naming) (book : Book)
    → open_read (tables_of naming book) ≡ length book.rulings.closes + 1
open_of naming book =
    ap (λ n. n + 1)
    (sym (length-map (entries (tables_of naming book).closes) (λ (row : ℕ × ℤ). row.1))
    ∙ ap length (values-numbers book.rulings.closes))

-- so with the details that they tell the tables are those of the book
pub details_are : (naming : Naming) (book : Book) → IsReadable naming book
    → with_details (uncounted (tables_of naming book)) ≡ tables_of naming book
details_are naming book whole =
    let tables : Tables = tables_of naming book in
    let counted = ap (λ (last : ℕ). set_of by_bytes
    (names_by (λ name. first_line tables.lines name 1 last) (entries tables.records)))
    (open_of naming book) ∙ names_told naming book whole in
    λ i. record tables { counted = counted i }
