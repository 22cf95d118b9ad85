use Rattle.book_laws.proofs.NetLemmas.{posted_once}
use Rattle.book_laws.proofs.histories.posted_once.Goals as goal

pub returns : goal.returns
returns c = posted_once
