use Rattle.book_laws.proofs.ImportLemmas.{one_receipt}
use Rattle.book_laws.proofs.calls.one_receipt.Goals as goal

pub returns : goal.returns
returns g c = one_receipt g.L.Ledger.seen
