use Rattle.book_core.proofs.TransitionLemmas.{no_work}
use Rattle.named_books.proofs.looks.LookVisit.visit.Goals as goal

pub returns-clause-done : goal.returns-clause-done
returns-clause-done g c = no_work (g.L.Ledger.seen c.args._books.now)
