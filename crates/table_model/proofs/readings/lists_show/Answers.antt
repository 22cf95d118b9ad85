use Rattle.table_model.proofs.ShownDisputes.{lists_show}
use Rattle.table_model.proofs.readings.lists_show.Goals as goal

pub returns : goal.returns
returns c = lists_show
