use Rattle.table_model.proofs.ViewLemmas.{view_follows}
use Rattle.table_model.proofs.laws.view_follows.Goals as goal

pub returns : goal.returns
returns c = view_follows
