use Rattle.book_model.proofs.JournalLemmas.{journal_stands_apart}
use Rattle.book_model.proofs.laws.journal_stands_apart.Goals as goal

pub returns : goal.returns
returns c = journal_stands_apart
