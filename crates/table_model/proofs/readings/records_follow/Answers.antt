use Rattle.table_model.proofs.TrailLemmas.{records_follow}
use Rattle.table_model.proofs.readings.records_follow.Goals as goal

pub returns : goal.returns
returns c = records_follow
