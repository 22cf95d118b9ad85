use Rattle.table_ledger.proofs.GroupStages.{group_staged, group_unentered, group_unkept}
use Rattle.table_ledger.proofs.GroupStages.{group_unsummed}
use Rattle.table_ledger.proofs.accept.stage_joined.Goals as goal

-- the store refused a record,
pub returns-in_err-told-clause-stages : goal.returns-in_err-told-clause-stages
returns-in_err-told-clause-stages g c =
    group_unkept _ _ _ _ _ _ _ _ _ _ c.number_of-came.ensures c.from_residual.result c.from_residual.ensures.0
    c.in_err-told.ensures.stages

-- the sums,
pub returns-in_err-write_sums-clause-stages : goal.returns-in_err-write_sums-clause-stages
returns-in_err-write_sums-clause-stages g c =
    group_unsummed _ _ _ _ _ _ _ _ _ _ c.number_of-came.ensures c.from_residual-in_err-write_sums.result
    c.from_residual-in_err-write_sums.ensures.0 c.in_ok-told.ensures.stages
    c.in_err-write_sums.ensures.does

-- or the entry
pub returns-in_err-renew-clause-stages : goal.returns-in_err-renew-clause-stages
returns-in_err-renew-clause-stages g c =
    group_unentered _ _ _ _ _ _ _ _ _ _ c.number_of-came.ensures c.from_residual-in_err-renew.result
    c.from_residual-in_err-renew.ensures.0 c.in_ok-told.ensures.stages
    c.in_ok-write_sums.ensures.does c.in_err-renew.ensures.does

-- all of it is written
pub returns-clause-stages : goal.returns-clause-stages
returns-clause-stages g c =
    group_staged _ _ _ _ _ _ _ _ _ _ c.number_of-came.ensures c.in_ok-told.ensures.stages c.in_ok-write_sums.ensures.does
    c.saturating_sub-more.ensures
    (rw c.as_slice.ensures.value at c.in_ok-renew.ensures.does)
