use Rattle.table_model.proofs.CountedDiffer.{at_most_two_names_differ}
use Rattle.table_model.proofs.laws.at_most_two_names_differ.Goals as goal

pub returns : goal.returns
returns c = at_most_two_names_differ
