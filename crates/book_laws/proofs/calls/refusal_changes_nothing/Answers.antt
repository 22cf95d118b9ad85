use Rattle.book_laws.proofs.AnswerLemmas.{refusal_changes_nothing}
use Rattle.book_laws.proofs.calls.refusal_changes_nothing.Goals as goal

pub returns : goal.returns
returns g c = refusal_changes_nothing _ _ _
