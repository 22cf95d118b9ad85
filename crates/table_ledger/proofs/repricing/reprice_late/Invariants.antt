use Rattle.table_ledger.proofs.Words.{state, TakesTariff}
use Rattle.table_ledger.proofs.LatePrices.{IsPricedTo}
use Rattle.table_ledger.proofs.Walks.{WalksTo}
use Rattle.table_ledger.proofs.repricing.reprice_late.Given as goal

-- the records that the tariff is for have their new prices, but for those that are still to come
abbrev pub invariant-records : goal.invariant-records
invariant-records g l =
    WalksTo (TakesTariff l.fn.period l.fn.tariff) (IsPricedTo l.fn.period l.fn.tariff l.last)
    (state g.S.Store l.fn.tables.store) (state g.S.Store l.tables.store)
