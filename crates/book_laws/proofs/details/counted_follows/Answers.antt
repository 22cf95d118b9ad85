use Rattle.book_laws.proofs.KeptLemmas.{counted_follows}
use Rattle.book_laws.proofs.details.counted_follows.Goals as goal

pub returns : goal.returns
returns c = counted_follows
