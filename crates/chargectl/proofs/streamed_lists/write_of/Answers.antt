use Rattle.chargectl.proofs.streamed_lists.write_of.Goals as goal

pub returns-in-Details-clause-written : goal.returns-in-Details-clause-written
returns-in-Details-clause-written g c =
    rw c.in-Details.is c.write_details.ensures.written

pub returns-in-Rulings-clause-written : goal.returns-in-Rulings-clause-written
returns-in-Rulings-clause-written g c =
    rw c.in-Rulings.is c.write_rulings.ensures.written

pub returns-in-Disputes-clause-written : goal.returns-in-Disputes-clause-written
returns-in-Disputes-clause-written g c =
    rw c.in-Disputes.is c.write_disputes.ensures.written

pub returns-in-Journal-clause-written : goal.returns-in-Journal-clause-written
returns-in-Journal-clause-written g c =
    rw c.in-Journal.is c.write_journal.ensures.written
