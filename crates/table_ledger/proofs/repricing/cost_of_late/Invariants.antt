use Rattle.table_ledger.proofs.Words.{state, Saw, CanBeSummed}
use Rattle.table_ledger.proofs.LateCosts.{SumsSo}
use Rattle.table_ledger.proofs.repricing.cost_of_late.Given as goal

-- the old prices of the records that were met are left out, and their new ones are summed
abbrev pub invariant-records : goal.invariant-records
invariant-records g l =
    Saw (state g.S.Store l.fn.tables.store) (state g.S.Store l.tables.store)
    (λ tables. CanBeSummed l.fn.tariff l.fn.total tables
    → SumsSo l.fn.tariff l.fn.total l.last l.rest l.cost tables)
