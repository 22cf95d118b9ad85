-- What a record costs contains its day.
use Rattle.std.proofs.Common.{◌≡◌, ℕ, List, Some}
use Rattle.book_model.specs.Words.{day_of, Rulings, price_in, in_force, Priced}
use Rattle.book_model.proofs.PricingLemmas.{priced_day}

-- a price has the record's day
pub day-price : (rulings : Rulings) (bytes : List ℕ) (priced : Priced)
    → price_in rulings bytes ≡ Some priced → priced.day ≡ day_of bytes
day-price rulings bytes priced price =
    priced_day (in_force (day_of bytes) rulings.tariffs) bytes priced price
