use Rattle.book_laws.proofs.NetLemmas.{named_once}
use Rattle.book_laws.proofs.histories.named_once.Goals as goal

pub returns : goal.returns
returns c = named_once
