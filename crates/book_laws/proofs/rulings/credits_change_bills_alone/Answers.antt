use Rattle.book_laws.proofs.RulingLemmas.{credits_change_bills_alone}
use Rattle.book_laws.proofs.rulings.credits_change_bills_alone.Goals as goal

pub returns : goal.returns
returns c = credits_change_bills_alone
