use Rattle.std.proofs.Common.{rules}
use Rattle.book_audit.proofs.due.check_came.Goals as goal

pub returns : goal.returns
returns c = c.take.ensures (search rules)
