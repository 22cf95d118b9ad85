use Rattle.table_model.proofs.AdoptChanges.{adoption_follows}
use Rattle.table_model.proofs.laws.adoption_follows.Goals as goal

pub returns : goal.returns
returns c = adoption_follows
