use Rattle.book_model.proofs.JournalLemmas.{entries_stay}
use Rattle.book_model.proofs.laws.entries_stay.Goals as goal

pub returns : goal.returns
returns c = entries_stay
