use Rattle.table_model.proofs.ReadableLemmas.{calls_read}
use Rattle.table_model.proofs.readings.calls_read.Goals as goal

pub returns : goal.returns
returns c = calls_read
