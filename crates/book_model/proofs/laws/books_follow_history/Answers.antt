use Rattle.book_model.proofs.StepLemmas.{books_follow_history}
use Rattle.book_model.proofs.laws.books_follow_history.Goals as goal

pub returns : goal.returns
returns c = books_follow_history
