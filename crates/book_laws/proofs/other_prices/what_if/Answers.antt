use Rattle.book_laws.proofs.OtherWorkLemmas.{books_keep_what_ifs, what_if}
use Rattle.book_laws.proofs.other_prices.what_if.Goals as goal

pub returns : goal.returns
returns c = record { rows = what_if; book = books_keep_what_ifs }
