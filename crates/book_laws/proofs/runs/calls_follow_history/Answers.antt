use Rattle.book_laws.proofs.CallLemmas.{calls_follow_history}
use Rattle.book_laws.proofs.runs.calls_follow_history.Goals as goal

pub returns : goal.returns
returns g c = calls_follow_history g.L.Ledger.seen
