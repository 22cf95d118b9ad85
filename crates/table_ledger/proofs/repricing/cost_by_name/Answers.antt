use Rattle.std.proofs.Common.{◌∙◌, ◌+◌, Some, ap}
use Rattle.table_model.specs.Words.{amount_under}
use Rattle.table_ledger.specs.Repricing.{CanCost}
use Rattle.table_ledger.proofs.NameSums.{names_full, names_last, names_next}
use Rattle.table_ledger.proofs.Repriced.{room}
use Rattle.table_ledger.proofs.TryLemmas.{looks_known, saw_found, saw_so, saw_then}
use Rattle.table_ledger.proofs.repricing.cost_by_name.Goals as goal

-- none is left: that is the cost
pub returns-in_default : goal.returns-in_default
returns-in_default g c = record {
  small = c.records.invariant.small;
  looks = looks_known (saw_then c.records.invariant.saw
      (saw_found (rw c.in_default.is at c.in_ok-stored.ensures.looks)))
      (λ tables known.
      names_last (amount_under c.args.tariff.now) (CanCost c.args.tariff.now) tables
      c.records.last c.records.cost known.0 known.1
      c.records.invariant.small);
}

-- with it they cost more than the books can hold
pub returns-in_default-cost_together : goal.returns-in_default-cost_together
returns-in_default-cost_together g c =
    let terms = c.args.tariff.now in
    let stored = c.in-Some.stored in
    let sum = c.records.cost + c.in_ok-amount.amount in
    record {
      small = tt;
      looks = looks_known (saw_then c.records.invariant.saw
          (saw_found (rw c.in-Some.is at c.in_ok-stored.ensures.looks)))
          (λ tables known.
          names_full (amount_under terms) (CanCost terms) tables (Some stored.name) sum
          (names_next (amount_under terms) (CanCost terms) tables c.records.last c.records.cost
          known.0 stored sum known.1
          (ap (λ n. c.records.cost + n) c.in_ok-amount.ensures.amount) c.in_ok-amount.ensures.can)
          c.in_default-cost_together.ensures.sum);
    }

-- the walk goes on
pub records-preserved : goal.records-preserved
records-preserved g c =
    let more = c.in-Some-cost_together.more in
    record {
      saw = saw_so (saw_then c.records.invariant.saw
          (saw_found (rw c.in-Some.is at c.in_ok-stored.ensures.looks)))
          (λ tables known.
          names_next (amount_under c.args.tariff.now) (CanCost c.args.tariff.now) tables
          c.records.last c.records.cost known.0
          c.in-Some.stored more known.1
          ((room (c.records.cost + c.in_ok-amount.amount) more
          c.in-Some-cost_together.ensures.sum).1
          ∙ ap (λ n. c.records.cost + n) c.in_ok-amount.ensures.amount)
          c.in_ok-amount.ensures.can);
      small = c.in-Some-cost_together.ensures.small;
    }
