use Rattle.request_bursts.proofs.BurstLemmas.{looks_none}
use Rattle.chargectl.proofs.arriving.ask_seen.Goals as goal

pub returns-in_default : goal.returns-in_default
returns-in_default g c = looks_none (g.L.Ledger.seen c.args.books.now)

pub returns : goal.returns
returns g c = c.answer_seen-told.ensures.one
