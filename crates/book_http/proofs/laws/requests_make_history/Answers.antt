use Rattle.book_http.proofs.LawLemmas as law
use Rattle.book_http.proofs.laws.requests_make_history.Goals as goal

pub returns : goal.returns
returns c = law.requests_make_history
