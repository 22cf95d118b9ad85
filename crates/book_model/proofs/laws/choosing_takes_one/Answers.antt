use Rattle.book_model.proofs.CreditLemmas.{choosing_takes_one}
use Rattle.book_model.proofs.laws.choosing_takes_one.Goals as goal

pub returns : goal.returns
returns c = choosing_takes_one
