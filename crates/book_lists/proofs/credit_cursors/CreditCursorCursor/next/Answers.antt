use Rattle.book_lists.proofs.CursorLemmas.{nothing_known}
use Rattle.book_lists.proofs.credit_cursors.CreditCursorCursor.next.Goals as goal

pub returns-clause-sound : goal.returns-clause-sound
returns-clause-sound g c = nothing_known c.credit_given.result
