use Rattle.table_model.proofs.AcceptLemmas.{view_is_determined}
use Rattle.table_model.proofs.readings.view_is_determined.Goals as goal

pub returns : goal.returns
returns c = view_is_determined
