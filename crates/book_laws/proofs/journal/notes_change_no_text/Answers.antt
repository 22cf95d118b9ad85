use Rattle.book_laws.proofs.JournalLemmas.{notes_change_no_text}
use Rattle.book_laws.proofs.journal.notes_change_no_text.Goals as goal

pub returns : goal.returns
returns c = notes_change_no_text
