use Rattle.std.proofs.Common.{refl}
use Rattle.book_lists.proofs.ReadingLemmas.{call_failed}
use Rattle.book_reports.proofs.CoverageReading.{around_read, around_refused}
use Rattle.book_reports.proofs.coverage.closes_around.Goals as goal

-- the close before is not answered
pub returns-in_err-before-clause-days : goal.returns-in_err-before-clause-days
returns-in_err-before-clause-days g c =
    call_failed c.from_residual.result c.from_residual.ensures.1 (λ book. refl) (λ book. refl)
    (λ book is. cc is) c.in_err-before.ensures.through

-- nor is its own
pub returns-in_err-through-clause-days : goal.returns-in_err-through-clause-days
returns-in_err-through-clause-days g c =
    around_refused c.args.period c.saturating_sub.result c.saturating_sub.ensures
    c.in_ok-before.ensures.through c.from_residual-in_err-through.result
    c.from_residual-in_err-through.ensures.1 c.in_err-through.ensures.through

-- or both are
pub returns-clause-days : goal.returns-clause-days
returns-clause-days g c =
    around_read c.args.period c.saturating_sub.result c.saturating_sub.ensures
    c.in_ok-before.ensures.through c.in_ok-through.through c.in_ok-through.ensures.through
