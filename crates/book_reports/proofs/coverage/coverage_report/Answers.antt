use Rattle.std.proofs.Common.{refl}
use Rattle.book_lists.proofs.ReadingLemmas.{call_failed, passed_on}
use Rattle.book_reports.specs.Coverage.{coverage_by}
use Rattle.book_reports.proofs.CoverageReading.{coverage_made, coverage_refused, coverage_stopped}
use Rattle.book_reports.proofs.CoverageReading.{sums_are}
use Rattle.book_reports.proofs.coverage.coverage_report.Goals as goal

-- the closes are not answered
pub returns-in_err-days : goal.returns-in_err-days
returns-in_err-days g c =
    call_failed c.from_residual.result c.from_residual.ensures.1 (λ book. refl) (λ book. refl)
    (λ book is. cc is) c.in_err-days.ensures.days

-- the records are refused
pub returns-in_err-sums : goal.returns-in_err-sums
returns-in_err-sums g c =
    rw (passed_on c.from_residual-in_err-sums.result c.from_residual-in_err-sums.ensures.1)
    (coverage_refused (coverage_by c.args.form c.args.period) c.args.period
    c.in_ok-days.ensures.days c.in_err-sums.ensures _ c.in_err-sums.field-0.0 refl)

-- these records were read, and the sums are theirs
pub coverage_by-requires-clause-sums : goal.coverage_by-requires-clause-sums
coverage_by-requires-clause-sums g c = (
  c.in_ok-sums.ensures.items,
  sums_are (coverage_by c.args.form c.args.period) c.args.period
      c.in_ok-days.ensures.days c.in_ok-sums.ensures c.in_ok-sums.sums refl,
)

-- there is no memory for the text
pub returns-in_err-text : goal.returns-in_err-text
returns-in_err-text g c =
    rw (passed_on c.from_residual-in_err-text.result c.from_residual-in_err-text.ensures.1)
    (coverage_stopped (coverage_by c.args.form c.args.period) c.args.period
    c.in_ok-days.ensures.days c.in_ok-sums.ensures c.in_ok-sums.sums refl _)

-- or this is it
pub returns : goal.returns
returns g c =
    coverage_made (coverage_by c.args.form c.args.period) c.args.period c.in_ok-days.ensures.days
    c.in_ok-sums.ensures c.in_ok-sums.sums refl _ c.in_ok-text.text c.in_ok-text.ensures
