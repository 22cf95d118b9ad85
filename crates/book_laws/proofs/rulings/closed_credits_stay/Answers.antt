use Rattle.book_laws.proofs.RulingLemmas.{closed_credits_stay}
use Rattle.book_laws.proofs.rulings.closed_credits_stay.Goals as goal

pub returns : goal.returns
returns c = closed_credits_stay
