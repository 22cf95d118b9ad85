use Rattle.book_laws.proofs.RunLemmas.{run_cuts_are_free}
use Rattle.book_laws.proofs.runs.run_cuts_are_free.Goals as goal

pub returns : goal.returns
returns c = run_cuts_are_free
