use Rattle.book_laws.proofs.CountedLemmas.{counted_is_read}
use Rattle.book_laws.proofs.details.counted_is_read.Goals as goal

pub returns : goal.returns
returns c = counted_is_read
