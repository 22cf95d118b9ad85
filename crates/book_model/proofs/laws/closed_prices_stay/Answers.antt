use Rattle.book_model.proofs.CallLemmas.{closed_prices_stay}
use Rattle.book_model.proofs.laws.closed_prices_stay.Goals as goal

pub returns : goal.returns
returns c = closed_prices_stay
