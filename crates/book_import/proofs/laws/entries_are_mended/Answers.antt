use Rattle.book_import.proofs.EntryLawLemmas.{entries_are_mended}
use Rattle.book_import.proofs.laws.entries_are_mended.Goals as goal

pub returns : goal.returns
returns c = entries_are_mended
