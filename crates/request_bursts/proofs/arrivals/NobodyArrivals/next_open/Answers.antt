use Rattle.request_bursts.proofs.BurstLemmas.{looks_none}
use Rattle.request_bursts.proofs.arrivals.NobodyArrivals.next_open.Goals as goal

pub returns-clause-answered : goal.returns-clause-answered
returns-clause-answered g c = looks_none _
