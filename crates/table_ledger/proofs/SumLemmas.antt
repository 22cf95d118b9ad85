-- The sums in the row of the book, which are written once, after the records that change them.
use Rattle.std.proofs.Common.{◌≡◌, sym}
use Rattle.book_model.specs.Words.{Book, Naming}
use Rattle.table_model.specs.Words.{set_sums, tables_of}
use Rattle.table_ledger.proofs.Words.{Remembers}
use Rattle.table_ledger.specs.declared.summary.Summary.{Summary}

-- to write sums that are remembered changes nothing
pub sums_there : {is : Summary} {book : Book} (naming : Naming) → Remembers is book
    → tables_of naming book ≡ set_sums is.held is.total (tables_of naming book)
sums_there {book = book} naming remembers =
    let tables = tables_of naming book in
    λ i. record tables {
      book = record tables.book { held = sym remembers.held i; amount = sym remembers.total i };
    }
