use Rattle.book_model.proofs.CreditLemmas.{withholding_takes_the_work}
use Rattle.book_model.proofs.laws.withholding_takes_the_work.Goals as goal

pub returns : goal.returns
returns c = withholding_takes_the_work
