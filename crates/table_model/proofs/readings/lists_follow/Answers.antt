use Rattle.table_model.proofs.ListLemmas.{lists_follow}
use Rattle.table_model.proofs.readings.lists_follow.Goals as goal

pub returns : goal.returns
returns c = lists_follow
