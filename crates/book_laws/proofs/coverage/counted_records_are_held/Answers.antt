use Rattle.book_laws.proofs.CoverageLemmas.{counted_are_held}
use Rattle.book_laws.proofs.coverage.counted_records_are_held.Goals as goal

pub returns : goal.returns
returns c = counted_are_held
