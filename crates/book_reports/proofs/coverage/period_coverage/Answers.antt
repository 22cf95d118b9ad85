use Rattle.std.proofs.Common.{refl}
use Rattle.book_lists.proofs.ReadingLemmas.{call_failed, passed_on}
use Rattle.book_reports.specs.Coverage.{rows_by}
use Rattle.book_reports.proofs.CoverageLemmas.{last_is_day}
use Rattle.book_reports.proofs.CoverageReading.{coverage_made, coverage_refused, coverage_stopped}
use Rattle.book_reports.proofs.CoverageReading.{sums_are}
use Rattle.book_reports.proofs.coverage.period_coverage.Goals as goal

-- the closes are not answered
pub returns-in_err-days : goal.returns-in_err-days
returns-in_err-days g c =
    call_failed c.from_residual.result c.from_residual.ensures.1 (λ book. refl) (λ book. refl)
    (λ book is. cc is) c.in_err-days.ensures.days

-- the records are refused
pub returns-in_err-sums : goal.returns-in_err-sums
returns-in_err-sums g c =
    rw (passed_on c.from_residual-in_err-sums.result c.from_residual-in_err-sums.ensures.1)
    (coverage_refused rows_by c.args.period c.in_ok-days.ensures.days c.in_err-sums.ensures _
    c.in_err-sums.field-0.0 refl)

-- the last of them is dated on a day
pub coverage_rows-requires-clause-last : goal.coverage_rows-requires-clause-last
coverage_rows-requires-clause-last g c =
    last_is_day c.in_ok-sums.sums c.in_ok-sums.ensures.items
    (sums_are rows_by c.args.period c.in_ok-days.ensures.days c.in_ok-sums.ensures
    c.in_ok-sums.sums refl)

-- there is no memory for the rows
pub returns-in_err-rows : goal.returns-in_err-rows
returns-in_err-rows g c =
    rw (passed_on c.from_residual-in_err-rows.result c.from_residual-in_err-rows.ensures.1)
    (coverage_stopped rows_by c.args.period c.in_ok-days.ensures.days c.in_ok-sums.ensures
    c.in_ok-sums.sums refl _)

-- or these are they
pub returns : goal.returns
returns g c =
    coverage_made rows_by c.args.period c.in_ok-days.ensures.days c.in_ok-sums.ensures
    c.in_ok-sums.sums refl _ c.in_ok-rows.rows c.in_ok-rows.ensures
