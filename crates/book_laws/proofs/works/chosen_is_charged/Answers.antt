use Rattle.book_laws.proofs.WorkLemmas.{chosen_is_charged}
use Rattle.book_laws.proofs.works.chosen_is_charged.Goals as goal

pub returns : goal.returns
returns c = chosen_is_charged
