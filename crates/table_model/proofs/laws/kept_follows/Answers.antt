use Rattle.table_model.proofs.KeptLemmas.{kept_follows}
use Rattle.table_model.proofs.laws.kept_follows.Goals as goal

pub returns : goal.returns
returns c = kept_follows
