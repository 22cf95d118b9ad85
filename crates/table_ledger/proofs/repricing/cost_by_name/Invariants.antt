use Rattle.std.proofs.Common.{◌≤◌}
use Rattle.book_model.specs.Words.{most_cost}
use Rattle.table_ledger.proofs.Words.{state, Saw}
use Rattle.table_model.specs.Words.{amount_under}
use Rattle.table_ledger.specs.Repricing.{CanCost}
use Rattle.table_ledger.proofs.NameSums.{SumsTo}
use Rattle.table_ledger.proofs.repricing.cost_by_name.Given as goal

-- what the records up to the last name cost together, which the books can hold
abbrev pub invariant-records : goal.invariant-records
invariant-records g l = record {
  saw : Saw (state g.S.Store l.fn.tables.store) (state g.S.Store l.tables.store)
      (SumsTo (amount_under l.fn.tariff) (CanCost l.fn.tariff) l.last l.cost);
  small : l.cost ≤ most_cost;
}
