use Rattle.table_model.proofs.SumRead.{sum_is_read}
use Rattle.table_model.proofs.laws.sum_is_read.Goals as goal

pub returns : goal.returns
returns c = sum_is_read
