use Rattle.table_model.proofs.CountedDiffer.{at_most_one_name_differs}
use Rattle.table_model.proofs.laws.at_most_one_name_differs.Goals as goal

pub returns : goal.returns
returns c = at_most_one_name_differs
