use Rattle.table_model.proofs.LineReading.{lines_follow}
use Rattle.table_model.proofs.laws.lines_follow.Goals as goal

pub returns : goal.returns
returns c = lines_follow
