use Rattle.book_laws.proofs.DetailLemmas.{details_add_up}
use Rattle.book_laws.proofs.details.details_add_up.Goals as goal

pub returns : goal.returns
returns c = details_add_up
