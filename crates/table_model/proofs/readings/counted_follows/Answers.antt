use Rattle.table_model.proofs.CountedLemmas.{counted_follows}
use Rattle.table_model.proofs.readings.counted_follows.Goals as goal

pub returns : goal.returns
returns c = counted_follows
