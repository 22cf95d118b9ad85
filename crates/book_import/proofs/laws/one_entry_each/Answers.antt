use Rattle.book_import.proofs.EntryLawLemmas.{one_entry_each}
use Rattle.book_import.proofs.laws.one_entry_each.Goals as goal

pub returns : goal.returns
returns c = one_entry_each
