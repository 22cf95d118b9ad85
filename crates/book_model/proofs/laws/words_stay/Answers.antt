use Rattle.book_model.proofs.WordLemmas.{words_stay}
use Rattle.book_model.proofs.laws.words_stay.Goals as goal

pub returns : goal.returns
returns c = words_stay
