use Rattle.book_reports.proofs.bill_page_reports.bill_page_report.Goals as goal

pub returns-in-Some : goal.returns-in-Some
returns-in-Some g c = rw c.in-Some.is c.known_page.ensures

-- the whole office
pub returns-in-None : goal.returns-in-None
returns-in-None g c = rw c.in-None.is c.page_made.ensures
