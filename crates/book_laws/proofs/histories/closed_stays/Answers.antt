use Rattle.book_laws.proofs.ClosedLemmas.{books_stay_closed, closed_stays}
use Rattle.book_laws.proofs.histories.closed_stays.Goals as goal

pub returns : goal.returns
returns c = record { history = closed_stays; book = books_stay_closed }
