use Rattle.book_laws.proofs.AnswerLemmas.{one_refusal}
use Rattle.book_laws.proofs.calls.one_refusal.Goals as goal

pub returns : goal.returns
returns g c = one_refusal _ _ _
