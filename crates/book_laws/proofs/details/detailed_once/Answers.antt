use Rattle.book_laws.proofs.CountedLemmas.{books_detail_once, detailed_once}
use Rattle.book_laws.proofs.details.detailed_once.Goals as goal

pub returns : goal.returns
returns c = record { history = detailed_once; book = books_detail_once }
