use Rattle.table_model.specs.TableChanges.{replace_step}
use Rattle.table_ledger.proofs.Walks.{WalksTo}
use Rattle.table_ledger.proofs.WalksOf.{HasWalked}
use Rattle.table_ledger.proofs.Words.{state, Always}
use Rattle.table_ledger.proofs.replaced_prices.replace_all.Given as goal

-- the records up to the last name have their new prices
abbrev pub invariant-records : goal.invariant-records
invariant-records g l =
    WalksTo Always
    (HasWalked (λ tables now. Unit {0})
    (λ tables. replace_step l.fn.period l.fn.tariffs l.fn.tariff) l.last)
    (state g.S.Store l.fn.tables.store) (state g.S.Store l.tables.store)
