use Rattle.std.proofs.Common.{◌≡◌, ◌∙◌, refl, sym, true}
use Rattle.table_model.specs.Words.{rows_read, is_period}
use Rattle.table_model.proofs.ListLemmas.{lists_follow}
use Rattle.book_core.specs.Words.{ruled_in}
use Rattle.table_ledger.proofs.ListReadings.{period_read}
use Rattle.table_ledger.proofs.GivenUp.{given_up}
use Rattle.table_ledger.proofs.TryLemmas.{saw_found, saw_none, try_refused}
use Rattle.table_ledger.proofs.charges.try_charges.Goals as goal

pub returns-clause-tries : goal.returns-clause-tries
returns-clause-tries g c = λ naming.
    let number = c.args.period in
    let there : is_period number (ruled_in c.args.summary.now.rulings) ≡ true =
    sym c.has_period.ensures ∙ c.if-not-has_period.false in
    period_read number (λ tables. rows_read number tables.days)
    (λ book whole. lists_follow.charges naming book number whole) c.in_ok-rows.rows there
    (saw_found c.in_ok-rows.ensures.looks) (λ tables is. sym is)

-- ---- what is not read leaves all as it was

pub returns-in_err-rows-clause-tries : goal.returns-in_err-rows-clause-tries
returns-in_err-rows-clause-tries g c = λ naming.
    try_refused _ c.from_residual.ensures.0 saw_none c.in_err-rows.ensures.looks

pub returns-then-not-can_show-clause-tries : goal.returns-then-not-can_show-clause-tries
returns-then-not-can_show-clause-tries g c = λ naming.
    given_up _ refl (saw_found c.in_ok-rows.ensures.looks)
