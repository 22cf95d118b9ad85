use Rattle.table_model.proofs.CloseLemmas.{close_follows}
use Rattle.table_model.proofs.laws.close_follows.Goals as goal

pub returns : goal.returns
returns c = close_follows
