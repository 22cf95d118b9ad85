use Rattle.table_model.proofs.LinesStay.{lines_stay}
use Rattle.table_model.proofs.laws.lines_stay.Goals as goal

pub returns : goal.returns
returns c = lines_stay
