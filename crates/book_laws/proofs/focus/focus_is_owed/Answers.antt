use Rattle.book_laws.proofs.FocusLemmas.{focus_is_owed}
use Rattle.book_laws.proofs.focus.focus_is_owed.Goals as goal

pub returns : goal.returns
returns c = focus_is_owed
