use Rattle.std.proofs.Common.{sym, ◌∙◌}
use Rattle.std.specs.Option.{option_or}
use Rattle.smf_frames.proofs.HeldFields.{tests_held}
use Rattle.smf_frames.proofs.JoinerStates.{fault_after}
use Rattle.smf_frames.proofs.joiner.Joiner.finish.Goals as goal

pub returns-in-Some-clause-exact : goal.returns-in-Some-clause-exact
returns-in-Some-clause-exact c = λ text stands.
    let tests = tests_held c.self.invariant c.self.view_is c.begun.ensures.exact in
    sym c.in-Some.is ∙ c.or.ensures
    ∙ (λ i. option_or (c.fault.ensures i) ((c.end_fault.ensures ∙ tests.1) i))
    ∙ sym (fault_after text c.args.self.now stands)

pub returns-in-None-clause-exact : goal.returns-in-None-clause-exact
returns-in-None-clause-exact c = λ text stands.
    let tests = tests_held c.self.invariant c.self.view_is c.begun.ensures.exact in
    sym c.in-None.is ∙ c.or.ensures
    ∙ (λ i. option_or (c.fault.ensures i) ((c.end_fault.ensures ∙ tests.1) i))
    ∙ sym (fault_after text c.args.self.now stands)
