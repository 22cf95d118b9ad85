use Rattle.std.proofs.Common.{refl}
use Rattle.tree_rows.proofs.Calls.{schema_both}
use Rattle.tree_tables.proofs.Looking.{kept_after, survives_both, was_clean}
use Rattle.tree_tables.proofs.OldChoices.{marks_err, marks_more, marks_whole}
use Rattle.tree_tables.proofs.old_choices.mark_these.Goals as goal

-- a step that fails leaves the last commit
pub returns-in_err-mark_one-clause-marks : goal.returns-in_err-mark_one-clause-marks
returns-in_err-mark_one-clause-marks g c =
    let so_far = c.loop-one.invariant.marks in
    let call = c.in_err-mark_one.ensures.marks in
    marks_err c.from_residual.result c.from_residual.ensures.0
    (survives_both so_far.survives call.survives) (λ clean.
    kept_after (so_far.done (was_clean call.survives clean)).0 (call.refused clean))

-- one more is marked
pub loop-one-preserved : goal.loop-one-preserved
loop-one-preserved g c = record {
  marks = marks_more c.args.all.now c.loop-one.one-index _ _ c.loop-one-test.true
      c.loop-one.invariant.marks refl c.in_ok-mark_one.ensures.marks;
  schema = schema_both c.loop-one.invariant.schema c.in_ok-mark_one.ensures.schema;
}

-- all are
pub returns-clause-marks : goal.returns-clause-marks
returns-clause-marks g c =
    marks_whole c.args.all.now c.loop-one.one-index c.loop-one-test.false
    c.loop-one.invariant.marks
