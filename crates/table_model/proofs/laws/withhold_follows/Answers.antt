use Rattle.table_model.proofs.ChoiceChanges.{withhold_follows}
use Rattle.table_model.proofs.laws.withhold_follows.Goals as goal

pub returns : goal.returns
returns c = withhold_follows
