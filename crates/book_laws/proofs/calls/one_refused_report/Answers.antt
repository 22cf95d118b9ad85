use Rattle.book_laws.proofs.ReportLemmas.{one_refused_report}
use Rattle.book_laws.proofs.calls.one_refused_report.Goals as goal

pub returns : goal.returns
returns g c = one_refused_report g.L.Ledger.seen
