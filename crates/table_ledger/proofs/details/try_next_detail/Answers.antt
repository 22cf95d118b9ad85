use Rattle.std.proofs.Common.{◌∙◌, refl, sym}
use Rattle.table_ledger.proofs.DetailTries.{next_found}
use Rattle.table_ledger.proofs.GivenUp.{given_up}
use Rattle.table_ledger.proofs.TryLemmas.{saw_found, saw_none, try_refused}
use Rattle.table_ledger.proofs.details.try_next_detail.Goals as goal

pub returns-clause-tries : goal.returns-clause-tries
returns-clause-tries g c = λ naming.
    next_found naming c.args.summary.now c.args.period c.args.centre c.args.last
    c.through_of.result c.through_of-2.result c.in_ok-found.found c.through_of.ensures
    c.through_of-2.ensures (sym c.has_period.ensures ∙ c.if-not-has_period.false)
    (saw_found c.in_ok-found.ensures.looks)

-- ---- what is not read leaves all as it was

pub returns-in_err-found-clause-tries : goal.returns-in_err-found-clause-tries
returns-in_err-found-clause-tries g c = λ naming.
    try_refused _ c.from_residual.ensures.0 saw_none c.in_err-found.ensures.looks

pub returns-then-not-can_show-clause-tries : goal.returns-then-not-can_show-clause-tries
returns-then-not-can_show-clause-tries g c = λ naming.
    given_up _ refl (saw_found c.in_ok-found.ensures.looks)
