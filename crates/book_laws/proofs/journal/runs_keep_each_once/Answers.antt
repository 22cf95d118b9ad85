use Rattle.book_laws.proofs.JournalLemmas.{runs_keep_each_once}
use Rattle.book_laws.proofs.journal.runs_keep_each_once.Goals as goal

pub returns : goal.returns
returns c = runs_keep_each_once
