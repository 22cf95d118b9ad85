use Rattle.table_model.proofs.DetailReading.{details_follow}
use Rattle.table_model.proofs.readings.details_follow.Goals as goal

pub returns : goal.returns
returns c = details_follow
