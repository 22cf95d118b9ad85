use Rattle.std.proofs.Common.{◌≡◌, ◌∙◌, ◌≤◌, ◌+◌, [], ap, arith, drop, refl, subst, sym}
use Rattle.book_model.specs.Words.{note_given}
use Rattle.book_core.specs.Withholdings.{with_answer}
use Rattle.book_core.specs.declared.withheld.Withheld.{Withheld}
use Rattle.table_ledger.proofs.SurvivalLemmas.{survives_none, survives_then}
use Rattle.table_ledger.proofs.WithheldStages.{AreWithheld, all_withheld, none_taken, work_failed}
use Rattle.table_ledger.proofs.WithheldStages.{work_refused, work_taken}
use Rattle.table_ledger.proofs.Words.{state}
use Rattle.table_ledger.proofs.withheld_together.stage_works.Goals as goal

pub loop-name-init : goal.loop-name-init
loop-name-init g c = record {
  kept = record { rulings = refl; replaced = refl; credits = refl; held = refl; total = refl };
  survives = survives_none;
  count = ap (λ (counts : Withheld). counts.taken) c.requires.none;
  within = subst (λ (counts : Withheld). counts.done + counts.absent ≤ counts.taken)
      (sym c.requires.none) (omega arith);
  taken = λ naming clean book at.
      none_taken naming (note_given c.args.note.now) c.args.names.now at c.requires.none;
}

pub with_answer-requires-clause-few : goal.with_answer-requires-clause-few
with_answer-requires-clause-few g c =
    omega (arith, c.loop-name.invariant.count, c.loop-name-test.true, c.requires.few)

pub with_answer-requires-clause-within : goal.with_answer-requires-clause-within
with_answer-requires-clause-within g c = c.loop-name.invariant.within

pub loop-name-preserved : goal.loop-name-preserved
loop-name-preserved g c =
    let before = c.loop-name.invariant in
    let answer = c.in-Ok.answer in
    let kept = c.in_ok-told.ensures.kept in
    let counts : c.with_answer.result ≡ with_answer c.loop-name.counts answer =
    c.with_answer.ensures.value in
    record {
      kept = record {
        rulings = kept.rulings ∙ before.kept.rulings;
        replaced = kept.replaced ∙ before.kept.replaced;
        credits = kept.credits ∙ before.kept.credits;
        held = kept.held ∙ before.kept.held;
        total = kept.total ∙ before.kept.total;
      };
      survives = survives_then before.survives (c.in_ok-told.ensures.stages (λ bytes. bytes)).survives;
      count = ap (λ (counts : Withheld). counts.taken) counts ∙ ap (λ n. n + 1) before.count;
      within = c.with_answer.ensures.within;
      taken = λ naming clean book at.
          subst (AreWithheld naming (note_given c.args.note.now) c.args.names.now (drop (c.loop-name.name-index + 1) c.args.names.now)
          c.stage_withheld.new.summary (g.S.Store.view c.args.tables.now.store)
          (g.S.Store.view c.stage_withheld.new.tables.store) book) (sym counts)
          (work_taken c.args.names.now c.loop-name.name-index [] c.loop-name-test.true
          before.survives (before.taken naming)
          (state g.S.Store c.stage_withheld.new.tables.store) answer c.in-Ok.ensures.answer
          (c.in_ok-told.ensures.stages naming) clean book at);
    }

pub returns-in_err-told-clause-stages : goal.returns-in_err-told-clause-stages
returns-in_err-told-clause-stages g c =
    λ naming.
    work_failed c.args.names.now c.loop-name.name-index [] c.loop-name-test.true
    c.loop-name.invariant.survives (c.loop-name.invariant.taken naming)
    (state g.S.Store c.stage_withheld.new.tables.store) c.loop-name.counts c.from_residual.result
    c.from_residual.ensures.0 (c.in_err-told.ensures.stages naming)

pub returns-in-Err-clause-stages : goal.returns-in-Err-clause-stages
returns-in-Err-clause-stages g c =
    λ naming.
    work_refused c.args.names.now c.loop-name.name-index [] c.loop-name-test.true
    c.loop-name.invariant.survives (c.loop-name.invariant.taken naming)
    (state g.S.Store c.stage_withheld.new.tables.store) c.in-Err.fault c.in-Err.ensures.refused
    c.in-Err.ensures.held c.loop-name.invariant.count (c.in_ok-told.ensures.stages naming)

pub returns-clause-stages : goal.returns-clause-stages
returns-clause-stages g c =
    λ naming.
    record {
      plain = record { stored = refl; served = refl };
      survives = c.loop-name.invariant.survives;
      found = λ clean book at.
          all_withheld (c.loop-name.invariant.taken naming clean book at) (λ made empty. tt);
    }

-- no more are counted than there are
pub returns-in_err-told-clause-few : goal.returns-in_err-told-clause-few
returns-in_err-told-clause-few g c =
    omega (arith, c.loop-name.invariant.count, c.loop-name-test.true)

pub returns-in-Err-clause-few : goal.returns-in-Err-clause-few
returns-in-Err-clause-few g c = omega (arith, c.loop-name.invariant.count, c.loop-name-test.true)
