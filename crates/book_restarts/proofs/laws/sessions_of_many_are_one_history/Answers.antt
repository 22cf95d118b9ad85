use Rattle.book_restarts.proofs.ManyLemmas.{are_one_history}
use Rattle.book_restarts.proofs.laws.sessions_of_many_are_one_history.Goals as goal

pub returns : goal.returns
returns g c = are_one_history g.T.Programs.work g.T.Programs.order g.T.Programs.files
