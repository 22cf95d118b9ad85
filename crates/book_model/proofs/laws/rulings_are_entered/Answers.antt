use Rattle.book_model.proofs.JournalLemmas.{rulings_are_entered}
use Rattle.book_model.proofs.laws.rulings_are_entered.Goals as goal

pub returns : goal.returns
returns c = rulings_are_entered
