use Rattle.book_reports.proofs.SystemLemmas.{next_refused, none_left, system_hindered, system_met}
use Rattle.book_reports.proofs.system_details.next_on_system.Goals as goal

-- the next detail is refused
pub returns-in_err-found-clause-item : goal.returns-in_err-found-clause-item
returns-in_err-found-clause-item g c =
    next_refused c.args.period c.args.last c.detail_in.ensures c.from_residual.result
    c.from_residual.ensures.1 c.in_err-found.ensures.detail

-- there are no more
pub returns-in_default-clause-item : goal.returns-in_default-clause-item
returns-in_default-clause-item g c =
    none_left c.args.period c.args.last c.detail_in.ensures c.in_ok-found.ensures.detail
    c.in_default.is

-- the look at the record is hindered
pub returns-in_err-system-clause-item : goal.returns-in_err-system-clause-item
returns-in_err-system-clause-item g c =
    system_hindered c.args.period c.args.last c.detail_in.ensures c.in_ok-found.ensures.detail
    c.in-Some.detail c.in-Some.is c.from_residual-in_err-system.result
    c.from_residual-in_err-system.ensures.1 c.in_err-system.ensures

-- or this is the next one
pub returns-clause-item : goal.returns-clause-item
returns-clause-item g c =
    system_met c.args.period c.args.last c.detail_in.ensures c.in_ok-found.ensures.detail
    c.in-Some.detail c.in-Some.is c.in_ok-system.system c.in_ok-system.ensures
