use Rattle.book_lists.proofs.arrival_cursors.arrival_after.Goals as goal

-- the first of all
pub returns-in-None : goal.returns-in-None
returns-in-None g c = rw c.in-None.is c.arrival_from.ensures

-- the first from the bytes behind its name on
pub returns-in-Some : goal.returns-in-Some
returns-in-Some g c =
    rw c.in-Some.is (rw c.bytes_after.ensures at c.arrival_from-in-Some.ensures)
