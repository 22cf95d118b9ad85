use Rattle.book_laws.proofs.HeldBackLemmas.{held_back_bounds}
use Rattle.book_laws.proofs.bills.held_back_bounds.Goals as goal

pub returns : goal.returns
returns c = held_back_bounds
