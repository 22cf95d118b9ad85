use Rattle.table_model.proofs.DisputeLemmas.{disputes_follow}
use Rattle.table_model.proofs.readings.disputes_follow.Goals as goal

pub returns : goal.returns
returns c = disputes_follow
