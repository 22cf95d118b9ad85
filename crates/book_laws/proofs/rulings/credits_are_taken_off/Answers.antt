use Rattle.book_laws.proofs.CreditSums.{credits_are_taken_off}
use Rattle.book_laws.proofs.rulings.credits_are_taken_off.Goals as goal

pub returns : goal.returns
returns c = credits_are_taken_off
