use Rattle.book_model.proofs.JournalLemmas.{notes_change_no_report}
use Rattle.book_model.proofs.laws.notes_change_no_report.Goals as goal

pub returns : goal.returns
returns c = notes_change_no_report
