use Rattle.table_model.proofs.PastLemmas.{past_stays}
use Rattle.table_model.proofs.laws.past_stays.Goals as goal

pub returns : goal.returns
returns c = past_stays
