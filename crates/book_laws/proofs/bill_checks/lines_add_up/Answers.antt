use Rattle.book_laws.proofs.LinePartLemmas.{lines_add_up}
use Rattle.book_laws.proofs.bill_checks.lines_add_up.Goals as goal

pub returns : goal.returns
returns c = lines_add_up
