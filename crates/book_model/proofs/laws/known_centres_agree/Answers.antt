use Rattle.book_model.proofs.KnownCentreLemmas.{known_centres_agree}
use Rattle.book_model.proofs.laws.known_centres_agree.Goals as goal

pub returns : goal.returns
returns c = known_centres_agree
