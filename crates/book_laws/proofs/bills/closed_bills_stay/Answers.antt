use Rattle.book_laws.proofs.BillStays.{books_keep_bills, closed_bills_stay}
use Rattle.book_laws.proofs.bills.closed_bills_stay.Goals as goal

pub returns : goal.returns
returns c = record { history = closed_bills_stay; book = books_keep_bills }
