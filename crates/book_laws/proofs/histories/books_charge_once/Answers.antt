use Rattle.book_laws.proofs.NetLemmas.{books_charge_once}
use Rattle.book_laws.proofs.histories.books_charge_once.Goals as goal

pub returns : goal.returns
returns c = books_charge_once
