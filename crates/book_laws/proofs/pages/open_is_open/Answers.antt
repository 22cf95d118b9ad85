use Rattle.book_laws.proofs.PageLemmas.{open_is_open}
use Rattle.book_laws.proofs.pages.open_is_open.Goals as goal

pub returns : goal.returns
returns c = open_is_open
