use Rattle.book_laws.proofs.ReadLemmas.{lines_once}
use Rattle.book_laws.proofs.histories.lines_once.Goals as goal

pub returns : goal.returns
returns c = lines_once
