use Rattle.std.proofs.Common.{◌∙◌, ◌+◌, Some, ap}
use Rattle.table_ledger.proofs.LateCosts.{cost_found, cost_full, sums_next}
use Rattle.table_ledger.proofs.Repriced.{room}
use Rattle.table_ledger.proofs.TryLemmas.{looks_known, saw_found, saw_so, saw_then}
use Rattle.std.proofs.Common.{refl}
use Rattle.table_ledger.proofs.LooksRefused.{look_given_up, look_refused}
use Rattle.table_ledger.proofs.repricing.cost_of_late.Goals as goal

-- none is left: that is the cost
pub returns-in_default : goal.returns-in_default
returns-in_default g c = record {
  small = c.cost_together.ensures.small;
  looks = looks_known (saw_then c.records.invariant
      (saw_found (rw c.in_default.is at c.in_ok-late.ensures.looks)))
      (λ tables known can.
      cost_found c.args.tariff.now c.args.total tables can c.records.last c.records.rest
      c.records.cost (known.0 can) known.1 c.cost_together.result c.cost_together.ensures.sum);
}

-- with it they cost more than the books can hold
pub returns-in_default-cost_together : goal.returns-in_default-cost_together
returns-in_default-cost_together g c =
    let terms = c.args.tariff.now in
    let total = c.args.total in
    let late = c.in-Some.late in
    let less = c.in-Some-checked_sub.less in
    let fits = c.in-Some-checked_sub.ensures in
    record {
      small = tt;
      looks = looks_known (saw_then c.records.invariant
          (saw_found (rw c.in-Some.is at c.in_ok-late.ensures.looks)))
          (λ tables known can.
          let sum = c.records.cost + c.in_ok-amount.amount in
          cost_full terms total tables can (Some late) less sum
          (sums_next terms total tables can c.records.last c.records.rest c.records.cost
          (known.0 can) late less sum known.1 fits.0 fits.1
          (ap (λ n. c.records.cost + n) c.in_ok-amount.ensures.amount) c.in_ok-amount.ensures.can)
          c.in_default-cost_together.ensures.sum);
    }

-- the walk goes on
pub records-preserved : goal.records-preserved
records-preserved g c =
    let late = c.in-Some.late in
    let less = c.in-Some-checked_sub.less in
    let more = c.in-Some-cost_together.more in
    let fits = c.in-Some-checked_sub.ensures in
    saw_so (saw_then c.records.invariant
    (saw_found (rw c.in-Some.is at c.in_ok-late.ensures.looks)))
    (λ tables known can.
    sums_next c.args.tariff.now c.args.total tables can c.records.last c.records.rest
    c.records.cost (known.0 can) late less more known.1 fits.0 fits.1
    ((room (c.records.cost + c.in_ok-amount.amount) more c.in-Some-cost_together.ensures.sum).1
    ∙ ap (λ n. c.records.cost + n) c.in_ok-amount.ensures.amount)
    c.in_ok-amount.ensures.can)

-- ---- a look that fails leaves all as it was

pub returns-in_err-late-clause-looks : goal.returns-in_err-late-clause-looks
returns-in_err-late-clause-looks g c =
    look_refused _ c.from_residual.ensures.0
    c.records.invariant c.in_err-late.ensures.looks

pub returns-in_default-checked_sub-clause-looks : goal.returns-in_default-checked_sub-clause-looks
returns-in_default-checked_sub-clause-looks g c =
    look_given_up _ refl (saw_then c.records.invariant
    (saw_found (rw c.in-Some.is at c.in_ok-late.ensures.looks)))

pub returns-in_err-amount-clause-looks : goal.returns-in_err-amount-clause-looks
returns-in_err-amount-clause-looks g c =
    look_given_up _ c.from_residual-in_err-amount.ensures.0 (saw_then c.records.invariant
    (saw_found (rw c.in-Some.is at c.in_ok-late.ensures.looks)))

pub returns-clause-looks : goal.returns-clause-looks
returns-clause-looks g c = look_given_up _ refl c.records.invariant
