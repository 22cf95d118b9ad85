use Rattle.book_laws.proofs.AmountLemmas.{conserved_in_sets}
use Rattle.book_laws.proofs.histories.conserved_in_sets.Goals as goal

pub returns : goal.returns
returns c = conserved_in_sets
