use Rattle.book_import.proofs.RepeatLemmas.{twice_is_once}
use Rattle.book_import.proofs.laws.twice_is_once.Goals as goal

pub returns : goal.returns
returns c = twice_is_once
