use Rattle.book_laws.proofs.KeptLemmas.{book_details_are_kept, details_are_kept}
use Rattle.book_laws.proofs.details.details_are_kept.Goals as goal

pub returns : goal.returns
returns c = record { history = details_are_kept; book = book_details_are_kept }
