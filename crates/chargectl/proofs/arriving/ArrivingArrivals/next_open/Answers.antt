use Rattle.request_bursts.proofs.BurstLemmas.{looks_none}
use Rattle.chargectl.proofs.arriving.ArrivingArrivals.next_open.Goals as goal

pub returns-then-self-eq0-clause-answered : goal.returns-then-self-eq0-clause-answered
returns-then-self-eq0-clause-answered g c = looks_none (g.L.Ledger.seen c.args.books.now)

pub returns-in_default-clause-answered : goal.returns-in_default-clause-answered
returns-in_default-clause-answered g c = looks_none (g.L.Ledger.seen c.args.books.now)
