use Rattle.table_model.proofs.RowReading.{rows_follow}
use Rattle.table_model.proofs.laws.rows_follow.Goals as goal

pub returns : goal.returns
returns c = rows_follow
