use Rattle.table_model.proofs.TrailLemmas.{line_periods_follow}
use Rattle.table_model.proofs.readings.line_periods_follow.Goals as goal

pub returns : goal.returns
returns c = line_periods_follow
