use Rattle.bill_texts.proofs.BookedLemmas.{booked_is_nearest}
use Rattle.bill_texts.proofs.booking.booked_by_centre.Goals as goal

pub returns-clause-nearest : goal.returns-clause-nearest
returns-clause-nearest c = booked_is_nearest
