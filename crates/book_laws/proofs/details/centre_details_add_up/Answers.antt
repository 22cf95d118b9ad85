use Rattle.book_laws.proofs.DetailLemmas.{centre_details_add_up}
use Rattle.book_laws.proofs.details.centre_details_add_up.Goals as goal

pub returns : goal.returns
returns c = centre_details_add_up
