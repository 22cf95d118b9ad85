use Rattle.book_laws.proofs.CentreLemmas.{centres_add_up}
use Rattle.book_laws.proofs.centres.centres_add_up.Goals as goal

pub returns : goal.returns
returns c = centres_add_up
