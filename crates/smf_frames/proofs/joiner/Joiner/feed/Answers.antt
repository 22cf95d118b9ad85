use Rattle.std.proofs.Common.{ap, sym, ◌∙◌, subst, Err, inr}
use Rattle.std.proofs.lemmas.Result.{err_from_is_err_and}
use Rattle.smf_frames.specs.Feeding.{Feeds}
use Rattle.smf_frames.specs.JoinerSteps.{IsStep}
use Rattle.smf_frames.proofs.FeedSteps.{fed_step, step_shrinks, none_stands}
use Rattle.smf_frames.proofs.FeedTakes.{feeds_standing, feeds_all}
use Rattle.smf_frames.proofs.FeedFails.{feeds_fault}
use Rattle.smf_frames.proofs.joiner.Joiner.feed.Goals as goal

pub returns-in_err-step : goal.returns-in_err-step
returns-in_err-step c =
    let p = err_from_is_err_and c.from_residual.result c.from_residual.ensures.1 in
    let none = none_stands c.loop-self.self.ready c.stands.result c.stands.ensures
    c.loop-self-test.true in
    subst (λ r. Feeds c.args.self.now c.args.piece.now r c.step.new.self) (sym (p.1 ∙ ap Err p.2))
    (feeds_fault c.args.self.now c.loop-self.self c.step.new.self c.args.piece.now
    c.loop-self.rest.now c.in_err-step.field-0.0 c.loop-self.invariant.fed none
    c.in_err-step.ensures.fault)

pub returns-in-None : goal.returns-in-None
returns-in-None c =
    let none = none_stands c.loop-self.self.ready c.stands.result c.stands.ensures
    c.loop-self-test.true in
    feeds_all c.args.self.now c.loop-self.self c.step.new.self c.args.piece.now
    c.loop-self.rest.now c.loop-self.invariant.fed none
    (subst (λ n. IsStep c.loop-self.self c.loop-self.rest.now n c.step.new.self) c.in-None.is
    c.in_ok-step.ensures.step)

pub returns : goal.returns
returns c =
    feeds_standing c.args.self.now c.loop-self.self c.args.piece.now c.loop-self.rest.now
    c.loop-self.invariant.fed (sym c.stands.ensures ∙ c.loop-self-test.false)

pub loop-self-smaller : goal.loop-self-smaller
loop-self-smaller c =
    step_shrinks c.loop-self.self c.step.new.self c.loop-self.rest.now c.split_at.result.1.now
    c.in-Some.n
    (subst (λ n. IsStep c.loop-self.self c.loop-self.rest.now n c.step.new.self) c.in-Some.is
    c.in_ok-step.ensures.step)
    c.split_at.ensures.back

pub loop-self-preserved : goal.loop-self-preserved
loop-self-preserved c =
    let none = none_stands c.loop-self.self.ready c.stands.result c.stands.ensures
    c.loop-self-test.true in
    record {
      fed = inr (fed_step c.args.self.now c.loop-self.self c.step.new.self c.args.piece.now
          c.loop-self.rest.now c.split_at.result.1.now c.in-Some.n c.loop-self.invariant.fed none
          (subst (λ n. IsStep c.loop-self.self c.loop-self.rest.now n c.step.new.self) c.in-Some.is
          c.in_ok-step.ensures.step)
          c.split_at.ensures.back);
    }
