use Rattle.table_model.proofs.ChoiceLemmas.{choices_follow}
use Rattle.table_model.proofs.readings.choices_follow.Goals as goal

pub returns : goal.returns
returns c = choices_follow
