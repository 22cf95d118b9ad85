use Rattle.table_ledger.proofs.Words.{state, Saw}
use Rattle.table_ledger.proofs.DetailCosts.{SummedTo}
use Rattle.table_ledger.proofs.detail_prices.rows_by_details.Given as goal

-- the prices of the details up to the last one are summed
abbrev pub invariant-details : goal.invariant-details
invariant-details g l =
    Saw (state g.S.Store l.fn.tables.store) (state g.S.Store l.tables.store)
    (SummedTo l.fn.tariff l.fn.close l.fn.through l.last l.sums)
