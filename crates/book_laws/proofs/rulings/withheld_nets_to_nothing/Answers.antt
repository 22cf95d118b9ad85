use Rattle.book_laws.proofs.RulingLemmas.{withheld_nets_to_nothing}
use Rattle.book_laws.proofs.rulings.withheld_nets_to_nothing.Goals as goal

pub returns : goal.returns
returns c = withheld_nets_to_nothing
