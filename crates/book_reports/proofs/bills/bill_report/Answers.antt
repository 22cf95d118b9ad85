use Rattle.book_reports.proofs.bills.bill_report.Goals as goal

pub returns-in-Some : goal.returns-in-Some
returns-in-Some g c = rw c.in-Some.is c.centre_bill.ensures

-- the whole office
pub returns-in-None : goal.returns-in-None
returns-in-None g c = rw c.in-None.is c.bill_made.ensures
