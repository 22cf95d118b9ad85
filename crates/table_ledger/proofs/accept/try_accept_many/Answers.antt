use Rattle.std.proofs.Common.{refl, Err}
use Rattle.table_ledger.proofs.CommitLemmas.{committed, uncommitted}
use Rattle.table_ledger.proofs.Remembered.{remembers_same}
use Rattle.table_ledger.proofs.accept.try_accept_many.Goals as goal

pub returns-in-Ok-clause-tries : goal.returns-in-Ok-clause-tries
returns-in-Ok-clause-tries g c =
    committed g.S.Store c.stage_many-staged.ensures.stages c.in-Ok.ensures refl

pub returns-in-Err-clause-tries : goal.returns-in-Err-clause-tries
returns-in-Err-clause-tries g c =
    let ruled = c.stage_many-staged.ensures.ruled in
    uncommitted g.S.Store _ (Err c.in-Err.error) refl c.stage_many-staged.ensures.stages
    c.in-Err.ensures (remembers_same ruled.rulings ruled.choices ruled.replaced ruled.credits refl refl)
