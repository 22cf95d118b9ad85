use Rattle.book_laws.proofs.BillLemmas.{bills_split_statements}
use Rattle.book_laws.proofs.bills.bills_split_statements.Goals as goal

pub returns : goal.returns
returns c = bills_split_statements
