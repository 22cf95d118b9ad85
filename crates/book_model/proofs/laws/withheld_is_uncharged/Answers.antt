use Rattle.book_model.proofs.CreditLemmas.{withheld_is_uncharged}
use Rattle.book_model.proofs.laws.withheld_is_uncharged.Goals as goal

pub returns : goal.returns
returns c = withheld_is_uncharged
