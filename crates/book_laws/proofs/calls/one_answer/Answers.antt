use Rattle.book_laws.proofs.AnswerLemmas.{one_answer}
use Rattle.book_laws.proofs.calls.one_answer.Goals as goal

pub returns : goal.returns
returns g c = one_answer _ _ _
