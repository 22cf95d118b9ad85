use Rattle.book_model.proofs.MadeByCallsLemmas.{latest_is_last}
use Rattle.book_model.proofs.laws.latest_is_last.Goals as goal

pub returns : goal.returns
returns c = latest_is_last
