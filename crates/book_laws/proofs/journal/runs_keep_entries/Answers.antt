use Rattle.book_laws.proofs.JournalLemmas.{runs_keep_entries}
use Rattle.book_laws.proofs.journal.runs_keep_entries.Goals as goal

pub returns : goal.returns
returns c = runs_keep_entries
