use Rattle.book_laws.proofs.LifeLemmas.{book_trails_net, trails_net}
use Rattle.book_laws.proofs.records.trails_net.Goals as goal

pub returns : goal.returns
returns c = record { history = trails_net; book = book_trails_net }
