use Rattle.table_model.proofs.DueStays.{due_stays}
use Rattle.table_model.proofs.laws.due_stays.Goals as goal

pub returns : goal.returns
returns c = due_stays
