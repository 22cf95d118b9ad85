use Rattle.book_http.proofs.RetryLemmas as law
use Rattle.book_http.proofs.laws.requests_are_mended.Goals as goal

pub returns : goal.returns
returns c = law.requests_are_mended
