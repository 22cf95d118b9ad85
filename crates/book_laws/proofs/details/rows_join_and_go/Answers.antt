use Rattle.book_laws.proofs.KeptLemmas.{rows_join_and_go}
use Rattle.book_laws.proofs.details.rows_join_and_go.Goals as goal

pub returns : goal.returns
returns c = rows_join_and_go
