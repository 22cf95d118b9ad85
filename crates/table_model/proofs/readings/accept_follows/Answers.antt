use Rattle.table_model.proofs.AcceptLemmas.{accept_follows}
use Rattle.table_model.proofs.readings.accept_follows.Goals as goal

pub returns : goal.returns
returns c = accept_follows
