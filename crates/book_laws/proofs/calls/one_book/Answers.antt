use Rattle.book_laws.proofs.AnswerLemmas.{one_book}
use Rattle.book_laws.proofs.calls.one_book.Goals as goal

pub returns : goal.returns
returns g c = one_book _ _ _
