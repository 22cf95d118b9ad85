use Rattle.book_laws.proofs.RunLemmas.{open_statement_is_first}
use Rattle.book_laws.proofs.runs.open_statement_is_first.Goals as goal

pub returns : goal.returns
returns c = open_statement_is_first
