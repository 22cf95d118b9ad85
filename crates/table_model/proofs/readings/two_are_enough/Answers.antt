use Rattle.table_model.proofs.AcceptLemmas.{two_are_enough}
use Rattle.table_model.proofs.readings.two_are_enough.Goals as goal

pub returns : goal.returns
returns c = two_are_enough
