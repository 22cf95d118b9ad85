use Rattle.table_model.proofs.ReplacedChanges.{replace_follows}
use Rattle.table_model.proofs.laws.replace_follows.Goals as goal

pub returns : goal.returns
returns c = replace_follows
