use Rattle.table_model.proofs.JournalFew.{journal_changes_few}
use Rattle.table_model.proofs.laws.journal_changes_few.Goals as goal

pub returns : goal.returns
returns c = journal_changes_few
