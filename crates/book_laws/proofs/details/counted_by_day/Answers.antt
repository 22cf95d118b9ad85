use Rattle.book_laws.proofs.CountedLemmas.{counted_by_day}
use Rattle.book_laws.proofs.details.counted_by_day.Goals as goal

pub returns : goal.returns
returns c = counted_by_day
