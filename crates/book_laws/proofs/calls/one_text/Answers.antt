use Rattle.book_laws.proofs.ReportLemmas.{one_text}
use Rattle.book_laws.proofs.calls.one_text.Goals as goal

pub returns : goal.returns
returns g c = one_text g.L.Ledger.seen
