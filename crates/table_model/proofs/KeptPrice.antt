-- A record that is kept has a price.
use Rattle.std.proofs.Common.{◌≡◌, ℕ, List, Some, Ok}
use Rattle.book_model.specs.declared.answer.Accepted.TheVariants.{Kept}
use Rattle.book_model.specs.Words.{Priced, accept_answer, Book, Naming, price_in}
use Rattle.book_model.proofs.TestLemmas.{kept_passes, kept_price}
use Rattle.table_model.proofs.TableParts.{what_is}

-- what it costs
pub kept_cost : (naming : Naming) (book : Book) (bytes : List ℕ)
    → accept_answer naming book bytes ≡ Ok Kept
    → (priced : Priced) × (price_in book.rulings bytes ≡ Some priced)
kept_cost naming book bytes kept =
    what_is (price_in book.rulings bytes)
    (kept_price book (price_in book.rulings bytes) (kept_passes naming book bytes kept).fits)
