use Rattle.book_laws.proofs.RulingLemmas.{unused_changes_nothing}
use Rattle.book_laws.proofs.rulings.unused_changes_nothing.Goals as goal

pub returns : goal.returns
returns c = unused_changes_nothing
