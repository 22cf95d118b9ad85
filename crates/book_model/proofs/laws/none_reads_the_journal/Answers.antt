use Rattle.book_model.proofs.JournalLemmas.{none_reads_the_journal}
use Rattle.book_model.proofs.laws.none_reads_the_journal.Goals as goal

pub returns : goal.returns
returns c = none_reads_the_journal
