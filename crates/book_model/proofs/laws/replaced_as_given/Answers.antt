use Rattle.book_model.proofs.ReplacedLemmas.{replaced_as_given}
use Rattle.book_model.proofs.laws.replaced_as_given.Goals as goal

pub returns : goal.returns
returns c = replaced_as_given
