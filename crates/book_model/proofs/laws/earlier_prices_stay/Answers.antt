use Rattle.book_model.proofs.PricingLemmas.{earlier_prices_stay}
use Rattle.book_model.proofs.laws.earlier_prices_stay.Goals as goal

pub returns : goal.returns
returns c = earlier_prices_stay
