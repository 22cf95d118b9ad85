use Rattle.book_laws.proofs.ReportLemmas.{one_prefix}
use Rattle.book_laws.proofs.calls.one_prefix.Goals as goal

pub returns : goal.returns
returns g c = one_prefix g.L.Ledger.seen
