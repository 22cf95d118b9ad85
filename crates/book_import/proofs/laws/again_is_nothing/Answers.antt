use Rattle.book_import.proofs.EntryLawLemmas.{again_is_nothing}
use Rattle.book_import.proofs.laws.again_is_nothing.Goals as goal

pub returns : goal.returns
returns c = again_is_nothing
