use Rattle.book_model.proofs.JournalLemmas.{imports_are_free}
use Rattle.book_model.proofs.laws.imports_are_free.Goals as goal

pub returns : goal.returns
returns c = imports_are_free
