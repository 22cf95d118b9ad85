use Rattle.std.proofs.Common.{◌∙◌, ap, subst, sym}
use Rattle.std.specs.List.{AllZip}
use Rattle.tree_rows.specs.Runs.{run_of}
use Rattle.tree_rows.proofs.Runs.{run_whole}
use Rattle.tree_rows.proofs.Calls.{clean_before}
use Rattle.tree_tables.proofs.Looking.{survives}
use Rattle.tree_tables.proofs.OldChoices.{marks_all}
use Rattle.tree_tables.specs.OldChoices.{SaysOldChoice}
use Rattle.tree_tables.proofs.old_choices.mark_choices.Goals as goal

-- all that were read have their mark
pub returns-clause-marks : goal.returns-clause-marks
returns-clause-marks g c =
    let trees = (g.S.Store.view c.args.store.now).trees in
    marks_all c.mark_these.result c.deref.result.now
    (survives g.S.Store c.list_run.ensures.quiet) c.in_ok-all.ensures.same
    c.mark_these.ensures.marks (λ clean.
    subst (λ some. AllZip SaysOldChoice some c.deref.result.now)
    (ap (λ part. run_of part (trees 8)) c.new-key.ensures ∙ run_whole (trees 8))
    (subst (λ all. AllZip SaysOldChoice (run_of c.new-key.result (trees 8)) all) (sym c.deref.ensures.value)
    (c.in_ok-all.ensures.found clean)))
