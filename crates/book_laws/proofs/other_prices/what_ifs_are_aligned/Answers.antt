use Rattle.book_laws.proofs.OtherWidthLemmas.{what_ifs_are_aligned}
use Rattle.book_laws.proofs.other_prices.what_ifs_are_aligned.Goals as goal

pub returns : goal.returns
returns c = what_ifs_are_aligned
