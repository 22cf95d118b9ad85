use Rattle.std.proofs.Common.{Ok, subst}
use Rattle.book_model.specs.Words.{note_given}
use Rattle.table_ledger.specs.WithheldTogether.{StagesWorks}
use Rattle.table_ledger.proofs.StageLemmas.{unstaged}
use Rattle.table_ledger.proofs.WithheldStages.{no_work_staged, works_staged}
use Rattle.table_ledger.proofs.Words.{state}
use Rattle.table_ledger.proofs.withheld_together.stage_together.Goals as goal

pub returns-in_default-clause-stages : goal.returns-in_default-clause-stages
returns-in_default-clause-stages g c = λ naming. works_staged (c.in_ok-told.ensures.stages naming)

pub returns-then-counts-eq0-clause-stages : goal.returns-then-counts-eq0-clause-stages
returns-then-counts-eq0-clause-stages g c =
    λ naming.
    no_work_staged c.in-Err.fault c.if-counts-eq0.true c.requires.some
    (subst (λ told. StagesWorks naming (note_given c.args.note.now) c.args.names.now
    c.args.summary.now c.stage_works.new.summary
    (state g.S.Store c.args.tables.now.store) (state g.S.Store c.stage_works.new.tables.store)
    c.stage_works.new.counts (Ok told)) c.in-Err.is (c.in_ok-told.ensures.stages naming))

pub returns-clause-stages : goal.returns-clause-stages
returns-clause-stages g c = λ naming. works_staged (c.in_ok-told.ensures.stages naming)

-- the store refused one
pub returns-in_err-told-clause-stages : goal.returns-in_err-told-clause-stages
returns-in_err-told-clause-stages g c =
    λ naming.
    let stages = c.in_err-told.ensures.stages naming in
    unstaged c.from_residual.result c.from_residual.ensures.0 stages.survives stages.found
