use Rattle.std.proofs.Common.{w32}
use Rattle.book_model.proofs.Std.{to_z-of_z}
use Rattle.table_ledger.proofs.listed_entries.listed_by.Goals as goal

-- it is in force
pub returns-in_ok-listed_on-in-None-clause-shown : goal.returns-in_ok-listed_on-in-None-clause-shown
returns-in_ok-listed_on-in-None-clause-shown c =
    rw c.in-None.is
    (rw (to_z-of_z w32 c.args.day c.ranges.day) at c.in_ok-listed_on-in-None.ensures.shown)
