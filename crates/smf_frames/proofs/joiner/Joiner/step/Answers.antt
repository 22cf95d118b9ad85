use Rattle.std.proofs.Common.{◌≤◌, ◌<◌, length, arith, sym, ap, ◌∙◌, subst, inl, inr}
use Rattle.std.proofs.lemmas.Bool.{cases_lt, false≢true}
use Rattle.std.proofs.lemmas.List.{length-take-le}
use Rattle.smf_frames.specs.JoinerSteps.{HoldsSegment}
use Rattle.smf_frames.proofs.OneStep.{step_short, step_block, step_less, holds_segment}
use Rattle.smf_frames.proofs.OneStep.{step_segment}
use Rattle.smf_frames.proofs.joiner.Joiner.step.Goals as goal

pub returns-then-not-has_descriptor-clause-step : goal.returns-then-not-has_descriptor-clause-step
returns-then-not-has_descriptor-clause-step c =
    let mid = c.hold_descriptor-first.new.self in
    let short : length mid.held < 4 = elim (cases_lt (length mid.held) 4) [
      | inl short ↦ short
      | inr four ↦
          let has = c.has_descriptor.ensures.1 four in
          absurd (false≢true (sym c.if-not-has_descriptor.true ∙ has))
    ] in
    step_short c.args.self.now mid c.args.rest.now c.hold_descriptor-first.result
    c.hold_descriptor-first.ensures.value c.hold_descriptor-first.ensures.all short
    (sym c.fault.ensures ∙ c.in_default.is)

pub returns-then-is_block_due-clause-step : goal.returns-then-is_block_due-clause-step
returns-then-is_block_due-clause-step c =
    let mid = c.hold_descriptor-first.new.self in
    let long = c.has_descriptor.ensures.0 c.if-not-has_descriptor.false in
    let short = c.is_block_due.ensures.short c.if-is_block_due.true in
    step_block c.args.self.now mid c.args.rest.now c.hold_descriptor-first.result
    c.hold_descriptor-first.ensures.value c.pass_block.new.self
    c.hold_descriptor-first.ensures.within
    (record {
      four = omega (arith, long, short);
      passes = sym c.fault.ensures ∙ c.in_default.is;
      due = sym c.is_block_due.ensures.exact ∙ c.if-is_block_due.true;
    })
    c.pass_block.ensures

pub returns-then-later-missing-clause-step : goal.returns-then-later-missing-clause-step
returns-then-later-missing-clause-step c =
    let mid = c.hold_descriptor-first.new.self in
    let lacks = c.if-later-missing.true in
    step_less c.args.self.now mid c.args.rest.now c.hold_descriptor-first.result
    c.hold_descriptor-first.ensures.value c.hold_data.new.self c.split_at.result.1.now
    c.split_at.ensures.back
    (record {
      four = c.has_descriptor.ensures.0 c.if-not-has_descriptor.false;
      passes = sym c.fault.ensures ∙ c.in_default.is;
      due = sym c.is_block_due.ensures.exact ∙ c.if-is_block_due.false;
    })
    (subst (λ n. length c.split_at.result.1.now < n) c.missing-missing.ensures.exact lacks)
    c.hold_data.ensures

pub pass_segment-requires-clause-holds : goal.pass_segment-requires-clause-holds
pass_segment-requires-clause-holds c =
    let mid = c.hold_descriptor-first.new.self in
    let passes = sym c.fault.ensures ∙ c.in_default.is in
    let due = sym c.is_block_due.ensures.exact ∙ c.if-is_block_due.false in
    holds_segment mid c.hold_data-2.new.self c.split_at-2.result.0.now
    (record {
      four = c.has_descriptor.ensures.0 c.if-not-has_descriptor.false;
      passes = passes;
      due = due;
    })
    (c.missing-missing.ensures.enough passes due)
    (ap length c.split_at-2.ensures.front
    ∙ length-take-le c.missing-missing.result c.split_at.result.1.now
    (omega (arith, c.if-later-missing.false))
    ∙ c.missing-missing.ensures.exact)
    c.hold_data-2.ensures

pub returns-clause-step : goal.returns-clause-step
returns-clause-step c =
    let mid = c.hold_descriptor-first.new.self in
    let whole = c.hold_data-2.new.self in
    let missing = c.missing-missing.result in
    let later = c.split_at.result.1.now in
    let there : missing ≤ length later = omega (arith, c.if-later-missing.false) in
    let passes = sym c.fault.ensures ∙ c.in_default.is in
    let due = sym c.is_block_due.ensures.exact ∙ c.if-is_block_due.false in
    let holds : HoldsSegment whole =
    holds_segment mid whole c.split_at-2.result.0.now
    (record {
      four = c.has_descriptor.ensures.0 c.if-not-has_descriptor.false;
      passes = passes;
      due = due;
    })
    (c.missing-missing.ensures.enough passes due)
    (ap length c.split_at-2.ensures.front ∙ length-take-le missing later there
    ∙ c.missing-missing.ensures.exact)
    c.hold_data-2.ensures in
    step_segment c.args.self.now mid c.args.rest.now c.hold_descriptor-first.result
    c.hold_descriptor-first.ensures.value whole c.pass_segment.new.self later
    c.split_at-2.result.0.now missing c.split_at.ensures.back c.split_at-2.ensures.front
    c.hold_descriptor-first.ensures.within there c.hold_data-2.ensures holds c.pass_segment.ensures
