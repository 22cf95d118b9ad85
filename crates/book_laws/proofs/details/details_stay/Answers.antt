use Rattle.book_laws.proofs.StayLemmas.{books_keep_details, details_stay}
use Rattle.book_laws.proofs.details.details_stay.Goals as goal

pub returns : goal.returns
returns c = record { history = details_stay; book = books_keep_details }
