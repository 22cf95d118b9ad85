use Rattle.book_laws.proofs.CreditSums.{credits_add_up}
use Rattle.book_laws.proofs.rulings.credits_add_up.Goals as goal

pub returns : goal.returns
returns c = credits_add_up
