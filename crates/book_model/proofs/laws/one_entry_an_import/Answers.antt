use Rattle.book_model.proofs.ImportLemmas.{one_entry_an_import}
use Rattle.book_model.proofs.laws.one_entry_an_import.Goals as goal

pub returns : goal.returns
returns c = one_entry_an_import
