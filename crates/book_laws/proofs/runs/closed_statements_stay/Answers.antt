use Rattle.book_laws.proofs.RunLemmas.{closed_statements_stay}
use Rattle.book_laws.proofs.runs.closed_statements_stay.Goals as goal

pub returns : goal.returns
returns c = closed_statements_stay
