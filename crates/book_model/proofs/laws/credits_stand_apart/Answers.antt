use Rattle.book_model.proofs.CreditLemmas.{credits_stand_apart}
use Rattle.book_model.proofs.laws.credits_stand_apart.Goals as goal

pub returns : goal.returns
returns c = credits_stand_apart
