use Rattle.std.proofs.Common.{append-nil, sym}
use Rattle.tree_tables.proofs.record_rows.push_came.Goals as goal

-- nothing joins it
pub returns-in-None : goal.returns-in-None
returns-in-None c = rw c.in-None.is (sym (append-nil c.args.row.now))

-- or the number does
pub returns-in-Some : goal.returns-in-Some
returns-in-Some c = rw c.in-Some.is c.push_number.ensures
