use Rattle.book_laws.proofs.RunLemmas.{runs_follow_history}
use Rattle.book_laws.proofs.runs.runs_follow_history.Goals as goal

pub returns : goal.returns
returns c = runs_follow_history
