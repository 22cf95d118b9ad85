use Rattle.std.proofs.Common.{◌≡◌, ◌≤◌, ◌+◌}
use Rattle.std.specs.BTreeMap.{values}
use Rattle.book_model.specs.Words.{most_cost}
use Rattle.plain_ledger.specs.Repricing.{cost_replaced}
use Rattle.plain_ledger.proofs.repricing.cost_in_place.Given as goal

-- the sum so far, and what the records that are left cost, make the whole; and it is no more than
-- the books hold
abbrev pub invariant-loop-kept : goal.invariant-loop-kept
invariant-loop-kept l = record {
  sum : l.cost + cost_replaced l.tariffs l.tariff l.kept-iterator
      ≡ cost_replaced l.tariffs l.tariff (values l.held);
  small : l.cost ≤ most_cost;
}
