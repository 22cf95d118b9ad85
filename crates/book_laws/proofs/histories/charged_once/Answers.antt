use Rattle.book_laws.proofs.NetLemmas.{charged_once}
use Rattle.book_laws.proofs.histories.charged_once.Goals as goal

pub returns : goal.returns
returns c = charged_once
