-- What records cost under a tariff that comes into force.
use Rattle.std.proofs.Common.{◌≡◌, ℕ, List, false, Some, Ok, int_lt}
use Rattle.book_model.proofs.Std.{list_any}
use Rattle.book_model.specs.declared.answer.Ruled.TheVariants.{Done}
use Rattle.book_model.specs.Words.{day_of, Terms, price_by, Book, is_effective, terms_answer}
use Rattle.book_model.specs.Words.{Rulings, price_in, with_tariff}
use Rattle.book_model.proofs.Lemmas.{later-before, later_price, tariff_passes}

module _ (book : Book) (text : List ℕ) (terms : Terms)
    (done : terms_answer book text terms ≡ Ok Done) where
  -- the rulings with the tariff
  abbrev ruled : Rulings
  ruled = with_tariff (Some text) terms book.rulings

  -- no other tariff begins on its first day
  pub day_free_of : list_any (is_effective terms.effective) book.rulings.tariffs ≡ false
  day_free_of = (tariff_passes book text terms done).free

  -- a record that is dated on its first day or later costs what it says
  pub new_price : (bytes : List ℕ) → int_lt (day_of bytes) terms.effective ≡ false
      → price_in ruled bytes ≡ Some (price_by terms bytes)
  new_price bytes late =
      later_price book.rulings (Some text) terms
      (later-before terms.effective book.rulings (tariff_passes book text terms done).later)
      bytes late
