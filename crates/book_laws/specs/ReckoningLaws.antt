-- Laws of how prices came about, and of what rates mean.
use Rattle.std.specs.Prelude.{◌≡◌, ℕ, ◌+◌, ◌*◌, ◌≤◌, ◌<◌, List, Some}
use Rattle.tariff_rules.specs.Terms.{RatesOf}
use Rattle.tariff_rules.specs.Price.{amount_of, centre_by, shift_by}
use Rattle.book_model.specs.Words.{Reckoning, Rulings, Terms, price_by, price_in, reckoned}
use Rattle.book_model.specs.Words.{reckoning_by, reckoning_in, rule_numbered}

-- By a tariff and a record: the shift rule that is named has the shift and the percent of the price,
-- the centre rule that is named has its centre, and the numbers come to its amount. Where no rule is
-- named these are BASE and UNASSIGNED.
pub record ReckonsPrice (terms : Terms) (bytes : List ℕ) (reckoning : Reckoning) : Type 0 where
  pub shift : (shift_by (rule_numbered terms.shifts reckoning.shift_rule)).name
      ≡ (price_by terms bytes).shift
  pub percent : (shift_by (rule_numbered terms.shifts reckoning.shift_rule)).percent
      ≡ reckoning.percent
  pub centre : centre_by (rule_numbered terms.centres reckoning.centre_rule)
      ≡ (price_by terms bytes).centre
  pub amount : reckoned reckoning ≡ (price_by terms bytes).amount

-- So it is for every tariff and record; and what a book's rulings reckon is what they charge.
pub record PricesAreReckoned : Type 0 where
  pub rules :
      (terms : Terms) (bytes : List ℕ) → ReckonsPrice terms bytes (reckoning_by terms bytes)
  pub price :
      (rulings : Rulings) (bytes : List ℕ) (reckoning : Reckoning)
      → reckoning_in rulings bytes ≡ Some reckoning
      → price_in rulings bytes ≡ Some reckoning.priced

-- where 100,000 parts make one, the amount is the whole number nearest to them, a half upwards
pub record IsNearest (parts amount : ℕ) : Type 0 where
  pub above : 100_000 * amount ≤ parts + 50_000
  pub below : parts < 100_000 * amount + 50_000

-- What rates mean. At 100 percent each CPU second, each 1,000 blocks and the record itself cost
-- their rates, and nothing is rounded. A hundredth of a second costs a hundredth of the rate of a
-- second, a block a thousandth of that of 1,000; so many percent of all together are rounded once.
pub record RatesSayWhatIsCharged : Type 0 where
  pub whole :
      (rates : RatesOf) (seconds thousands : ℕ)
      → amount_of rates 100 (100 * seconds) (1000 * thousands)
      ≡ seconds * rates.cpu + thousands * rates.excp + rates.record_fee
  pub nearest :
      (rates : RatesOf) (percent cpu excp : ℕ)
      → IsNearest ((10 * cpu * rates.cpu + excp * rates.excp + 1000 * rates.record_fee) * percent)
      (amount_of rates percent cpu excp)
