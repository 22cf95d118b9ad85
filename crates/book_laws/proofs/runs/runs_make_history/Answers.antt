use Rattle.book_laws.proofs.RunLemmas.{runs_make_history}
use Rattle.book_laws.proofs.runs.runs_make_history.Goals as goal

pub returns : goal.returns
returns c = runs_make_history
