use Rattle.std.proofs.Common.{None, Some, ap}
use Rattle.book_model.specs.Words.{ImportDone, RulingDone, ending_shown, place_shown, reading_shown}
use Rattle.plain_ledger.proofs.plain.PlainBooks.listed_act.Goals as goal

-- a ruling by its place
pub returns-in_ok-found-in-Ruling-clause-shown : goal.returns-in_ok-found-in-Ruling-clause-shown
returns-in_ok-found-in-Ruling-clause-shown g c =
    rw c.in-Ruling.is
    (ap (RulingDone (place_shown c.in-Ruling.place)) c.in_ok-found-in-Ruling.ensures.shown)

-- an import by what it kept
pub returns-in-Going-clause-shown : goal.returns-in-Going-clause-shown
returns-in-Going-clause-shown g c =
    rw c.in-Going.is
    (ap (ImportDone (reading_shown c.in-Going.reading) None)
    (rw c.deref.ensures.value at c.count_kept.ensures))

pub returns-in-Ended-clause-shown : goal.returns-in-Ended-clause-shown
returns-in-Ended-clause-shown g c =
    rw c.in-Ended.is
    (ap (ImportDone (reading_shown c.in-Ended.reading) (Some (ending_shown c.in-Ended.ending)))
    (rw c.deref-in-Ended.ensures.value at c.count_kept-in-Ended.ensures))
