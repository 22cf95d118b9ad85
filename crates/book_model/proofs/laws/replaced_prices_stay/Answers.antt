use Rattle.book_model.proofs.ReplacedLemmas.{replaced_prices_stay}
use Rattle.book_model.proofs.laws.replaced_prices_stay.Goals as goal

pub returns : goal.returns
returns c = replaced_prices_stay
