use Rattle.book_laws.proofs.DatedLemmas.{dated_right}
use Rattle.book_laws.proofs.histories.dated_right.Goals as goal

pub returns : goal.returns
returns c = dated_right
