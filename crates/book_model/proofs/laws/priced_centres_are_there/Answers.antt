use Rattle.book_model.proofs.KnownCentreLemmas.{priced_centres_are_there}
use Rattle.book_model.proofs.laws.priced_centres_are_there.Goals as goal

pub returns : goal.returns
returns c = priced_centres_are_there
