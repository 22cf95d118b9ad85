use Rattle.consistent_tables.proofs.Tables.{consistent_are_tables}
use Rattle.consistent_tables.proofs.laws.consistent_are_tables.Goals as goal

pub returns : goal.returns
returns c = consistent_are_tables
