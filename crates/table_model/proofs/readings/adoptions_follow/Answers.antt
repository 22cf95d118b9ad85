use Rattle.table_model.proofs.AdoptionLemmas.{adoptions_follow}
use Rattle.table_model.proofs.readings.adoptions_follow.Goals as goal

pub returns : goal.returns
returns c = adoptions_follow
