use Rattle.book_laws.proofs.RunLemmas.{runs_conserve}
use Rattle.book_laws.proofs.runs.runs_conserve.Goals as goal

pub returns : goal.returns
returns c = runs_conserve
