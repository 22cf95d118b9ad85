use Rattle.std.proofs.Common.{refl, Err}
use Rattle.table_ledger.proofs.CommitLemmas.{committed, uncommitted}
use Rattle.table_ledger.proofs.Remembered.{remembers_same}
use Rattle.table_ledger.proofs.withheld_together.try_withhold_many.Goals as goal

pub returns-in-Ok-clause-tries : goal.returns-in-Ok-clause-tries
returns-in-Ok-clause-tries g c =
    λ naming. committed g.S.Store (c.stage_together-staged.ensures.stages naming) c.in-Ok.ensures refl

pub returns-in-Err-clause-tries : goal.returns-in-Err-clause-tries
returns-in-Err-clause-tries g c =
    λ naming.
    let kept = c.stage_together-staged.ensures.kept in
    uncommitted g.S.Store _ (Err c.in-Err.error) refl (c.stage_together-staged.ensures.stages naming)
    c.in-Err.ensures
    (remembers_same kept.rulings refl kept.replaced kept.credits kept.held kept.total)
