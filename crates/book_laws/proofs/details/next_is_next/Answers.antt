use Rattle.book_laws.proofs.StayLemmas.{next_is_next}
use Rattle.book_laws.proofs.details.next_is_next.Goals as goal

pub returns : goal.returns
returns c = next_is_next
