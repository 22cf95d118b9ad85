use Rattle.book_http.proofs.LawLemmas as law
use Rattle.book_http.proofs.laws.request_twice_is_once.Goals as goal

pub returns : goal.returns
returns c = law.request_twice_is_once
