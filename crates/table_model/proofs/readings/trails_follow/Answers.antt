use Rattle.table_model.proofs.TrailLemmas.{trails_follow}
use Rattle.table_model.proofs.readings.trails_follow.Goals as goal

pub returns : goal.returns
returns c = trails_follow
