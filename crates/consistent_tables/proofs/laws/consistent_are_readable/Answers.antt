-- The law of the book that consistent tables determine.
use Rattle.consistent_tables.proofs.ReadableBook.{consistent_are_readable}
use Rattle.consistent_tables.proofs.laws.consistent_are_readable.Goals as goal

pub returns : goal.returns
returns c = consistent_are_readable
