use Rattle.std.proofs.Common.{Some, ap}
use Rattle.book_core.proofs.notes.copied_if_noted.Goals as goal

pub returns-in_ok-copy-in-Some : goal.returns-in_ok-copy-in-Some
returns-in_ok-copy-in-Some c = rw c.in-Some.is (ap Some c.in_ok-copy-in-Some.ensures)
