use Rattle.book_import.proofs.RetryLemmas.{stops_are_mended}
use Rattle.book_import.proofs.laws.stops_are_mended.Goals as goal

pub returns : goal.returns
returns c = stops_are_mended
