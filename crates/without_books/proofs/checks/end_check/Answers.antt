use Rattle.std.proofs.Common.{◌∙◌}
use Rattle.without_books.proofs.checks.end_check.Goals as goal

-- a write failed
pub returns-clause-failed : goal.returns-clause-failed
returns-clause-failed g c = λ told. c.into_inner.ensures.cause (c.requires ∙ told)
