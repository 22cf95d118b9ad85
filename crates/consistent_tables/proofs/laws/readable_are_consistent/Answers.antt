use Rattle.consistent_tables.proofs.ReadableTables.{readable_are_consistent}
use Rattle.consistent_tables.proofs.laws.readable_are_consistent.Goals as goal

pub returns : goal.returns
returns c = readable_are_consistent
