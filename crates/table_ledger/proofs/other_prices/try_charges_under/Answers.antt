use Rattle.std.proofs.Common.{◌∙◌, sym, refl}
use Rattle.table_ledger.proofs.TryLemmas.{saw_found, saw_none, try_refused}
use Rattle.table_ledger.proofs.WhatIfTries.{what_if_found, what_if_full}
use Rattle.table_ledger.proofs.GivenUp.{given_up}
use Rattle.table_ledger.proofs.other_prices.try_charges_under.Goals as goal

pub returns-in_default-clause-tries : goal.returns-in_default-clause-tries
returns-in_default-clause-tries g c = λ naming.
    what_if_full naming c.args.summary.now c.args.period c.args.tariff.now
    (sym c.has_period.ensures ∙ c.if-not-has_period.false)
    (saw_found (rw c.in_default.is at c.in_ok-rows.ensures.looks))

pub returns-clause-tries : goal.returns-clause-tries
returns-clause-tries g c = λ naming.
    what_if_found naming c.args.summary.now c.args.period c.args.tariff.now
    (sym c.has_period.ensures ∙ c.if-not-has_period.false) c.in-Some.rows
    (saw_found (rw c.in-Some.is at c.in_ok-rows.ensures.looks))

-- ---- what is not read leaves all as it was

pub returns-in_err-rows-clause-tries : goal.returns-in_err-rows-clause-tries
returns-in_err-rows-clause-tries g c = λ naming.
    try_refused _ c.from_residual.ensures.0 saw_none
    c.in_err-rows.ensures.looks

pub returns-then-not-can_show-clause-tries : goal.returns-then-not-can_show-clause-tries
returns-then-not-can_show-clause-tries g c = λ naming.
    given_up _ refl (saw_found (rw c.in-Some.is at c.in_ok-rows.ensures.looks))
