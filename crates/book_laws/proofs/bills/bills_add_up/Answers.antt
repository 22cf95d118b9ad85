use Rattle.book_laws.proofs.BillLemmas.{bills_add_up}
use Rattle.book_laws.proofs.bills.bills_add_up.Goals as goal

pub returns : goal.returns
returns c = bills_add_up
