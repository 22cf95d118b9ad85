use Rattle.book_laws.proofs.RunAnswerLemmas.{one_run}
use Rattle.book_laws.proofs.calls.one_run.Goals as goal

pub returns : goal.returns
returns g c = one_run g.L.Ledger.seen
