use Rattle.table_model.proofs.CallsLemmas.{calls_stay}
use Rattle.table_model.proofs.readings.calls_stay.Goals as goal

pub returns : goal.returns
returns c = calls_stay
