use Rattle.book_laws.proofs.WidthLemmas.{statements_are_aligned}
use Rattle.book_laws.proofs.runs.statements_are_aligned.Goals as goal

pub returns : goal.returns
returns c = statements_are_aligned
