use Rattle.table_model.proofs.ChoiceChanges.{choice_follows}
use Rattle.table_model.proofs.laws.choice_follows.Goals as goal

pub returns : goal.returns
returns c = choice_follows
