use Rattle.std.proofs.Common.{refl}
use Rattle.book_lists.proofs.ReadingLemmas.{call_failed, passed_on}
use Rattle.book_reports.proofs.WorkLemmas.{work_ended, work_refused, work_stopped}
use Rattle.book_reports.proofs.bill_work.period_work.Goals as goal

-- the day of the close is not answered
pub returns-in_err-through-clause-work : goal.returns-in_err-through-clause-work
returns-in_err-through-clause-work g c =
    call_failed c.from_residual.result c.from_residual.ensures.1 (λ book. refl) (λ book. refl)
    (λ book is. cc is) c.in_err-through.ensures.through

-- the details are refused
pub returns-in_err-sums-clause-work : goal.returns-in_err-sums-clause-work
returns-in_err-sums-clause-work g c =
    rw (passed_on c.from_residual-in_err-sums.result c.from_residual-in_err-sums.ensures.1)
    (work_refused c.args.period c.args.centre.now c.in_ok-through.ensures.through c.in_err-sums.ensures
    c.in_err-sums.field-0.0 refl)

-- there is no memory for their rows
pub returns-in_err-rows-clause-work : goal.returns-in_err-rows-clause-work
returns-in_err-rows-clause-work g c =
    rw (passed_on c.from_residual-in_err-rows.result c.from_residual-in_err-rows.ensures.1)
    (work_stopped c.args.period c.args.centre.now c.in_ok-through.ensures.through c.in_ok-sums.ensures
    c.in_ok-sums.sums refl)

-- or these are the rows
pub returns-clause-work : goal.returns-clause-work
returns-clause-work g c =
    work_ended c.args.period c.args.centre.now c.in_ok-through.ensures.through c.in_ok-sums.ensures
    c.in_ok-sums.sums refl c.in_ok-rows.rows c.in_ok-rows.ensures
