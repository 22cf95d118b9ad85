use Rattle.book_laws.proofs.JournalLemmas.{runs_enter_rulings}
use Rattle.book_laws.proofs.journal.runs_enter_rulings.Goals as goal

pub returns : goal.returns
returns c = runs_enter_rulings
