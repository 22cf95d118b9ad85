use Rattle.book_reports.proofs.known_centres.known_through.Goals as goal

pub returns-in-Some-clause-through : goal.returns-in-Some-clause-through
returns-in-Some-clause-through g c = rw c.in-Some.is c.centre_through.ensures.through

-- no centre is named
pub returns-in-None-clause-through : goal.returns-in-None-clause-through
returns-in-None-clause-through g c = rw c.in-None.is c.closed_through.ensures.through
