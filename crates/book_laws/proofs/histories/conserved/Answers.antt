use Rattle.book_laws.proofs.ReadLemmas.{books_conserve, conserved}
use Rattle.book_laws.proofs.histories.conserved.Goals as goal

pub returns : goal.returns
returns c = record { history = conserved; book = books_conserve }
