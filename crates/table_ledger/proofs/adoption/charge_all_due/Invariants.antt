use Rattle.tree_tables.specs.States.{state}
use Rattle.table_ledger.specs.Adoptions.{IsLast}
use Rattle.table_ledger.proofs.DueCharges.{IsStill, settle_of}
use Rattle.table_ledger.proofs.Walks.{WalksTo}
use Rattle.table_ledger.proofs.WalksOf.{HasWalked}
use Rattle.table_ledger.proofs.adoption.charge_all_due.Given as goal

-- of the records up to the last name those that are to be charged are charged
abbrev pub invariant-records : goal.invariant-records
invariant-records g l =
    WalksTo (IsLast l.fn.chosen)
    (HasWalked (IsStill l.fn.chosen) (settle_of l.fn.period l.fn.through) l.last)
    (state g.S.Store l.fn.tables.store) (state g.S.Store l.tables.store)
