use Rattle.book_import.proofs.ReadingLemmas.{some_read}
use Rattle.book_import.proofs.import_entry.ImportEntry.new.Goals as goal

pub returns-clause-read : goal.returns-clause-read
returns-clause-read c = some_read c.share_of.result c.new.ensures.none
