use Rattle.book_laws.proofs.RunLemmas.{run_order_is_free}
use Rattle.book_laws.proofs.runs.run_order_is_free.Goals as goal

pub returns : goal.returns
returns c = run_order_is_free
