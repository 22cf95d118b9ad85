use Rattle.office.proofs.LawLemmas.{answers_follow_book}
use Rattle.office.proofs.laws.answers_follow_book.Goals as goal

pub returns : goal.returns
returns g c = answers_follow_book g.L.Ledger.seen
