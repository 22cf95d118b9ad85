use Rattle.book_http.proofs.UniqueAnswerLemmas as law
use Rattle.book_http.proofs.laws.answers_are_one.Goals as goal

pub returns : goal.returns
returns c = law.answers_are_one
