use Rattle.table_model.proofs.RulingLemmas.{terms_follow}
use Rattle.table_model.proofs.readings.terms_follow.Goals as goal

pub returns : goal.returns
returns c = terms_follow
