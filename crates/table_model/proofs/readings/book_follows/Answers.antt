use Rattle.table_model.proofs.BookLemmas.{book_follows}
use Rattle.table_model.proofs.readings.book_follows.Goals as goal

pub returns : goal.returns
returns c = book_follows
