use Rattle.request_bursts.proofs.BurstLemmas.{looks_none}
use Rattle.tests_books.proofs.client.SoonArrivals.next_open.Goals as goal

pub returns-in_default-clause-answered : goal.returns-in_default-clause-answered
returns-in_default-clause-answered g c = looks_none (g.L.Ledger.seen c.args.books.now)
