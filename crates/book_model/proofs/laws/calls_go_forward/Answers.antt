use Rattle.book_model.proofs.CallLemmas.{calls_go_forward}
use Rattle.book_model.proofs.laws.calls_go_forward.Goals as goal

pub returns : goal.returns
returns c = calls_go_forward
