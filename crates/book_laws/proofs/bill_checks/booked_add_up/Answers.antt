use Rattle.book_laws.proofs.BookedLemmas.{booked_add_up}
use Rattle.book_laws.proofs.bill_checks.booked_add_up.Goals as goal

pub returns : goal.returns
returns c = booked_add_up
