use Rattle.book_restarts.proofs.SessionLemmas.{sessions_follow_book}
use Rattle.book_restarts.proofs.laws.sessions_follow_book.Goals as goal

pub returns : goal.returns
returns g c = sessions_follow_book g.T.Sessions.work g.T.Sessions.files
