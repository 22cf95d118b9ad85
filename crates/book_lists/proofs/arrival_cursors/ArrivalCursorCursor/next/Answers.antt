use Rattle.book_lists.proofs.ArrivalCursorLemmas.{first_arrival, later_arrival}
use Rattle.book_lists.proofs.CursorLemmas.{nothing_known}
use Rattle.book_lists.proofs.arrival_cursors.ArrivalCursorCursor.next.Goals as goal

-- at first
pub returns-then-count-eq0-clause-item : goal.returns-then-count-eq0-clause-item
returns-then-count-eq0-clause-item g c =
    first_arrival c.args.count c.args.last c.if-count-eq0.true c.arrival_from.ensures

pub returns-then-count-eq0-clause-sound : goal.returns-then-count-eq0-clause-sound
returns-then-count-eq0-clause-sound g c = nothing_known c.arrival_from.result

-- later
pub returns-clause-item : goal.returns-clause-item
returns-clause-item g c =
    later_arrival c.args.count c.args.last c.if-count-eq0.false c.arrival_after.ensures

pub returns-clause-sound : goal.returns-clause-sound
returns-clause-sound g c = nothing_known c.arrival_after.result
