use Rattle.table_model.proofs.DifferLemmas.{at_most_three_differ}
use Rattle.table_model.proofs.laws.at_most_three_differ.Goals as goal

pub returns : goal.returns
returns c = at_most_three_differ
