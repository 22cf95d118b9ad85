use Rattle.table_model.proofs.CountedHeld.{names_follow}
use Rattle.table_model.proofs.laws.names_follow.Goals as goal

pub returns : goal.returns
returns c = names_follow
