use Rattle.std.proofs.Common.{◌∙◌}
use Rattle.smf_frames.proofs.HeldFields.{tests_held}
use Rattle.smf_frames.proofs.joiner.Joiner.fault.Goals as goal

pub returns : goal.returns
returns c =
    c.descriptor_fault.ensures
    ∙ (tests_held c.self.invariant c.self.view_is c.begun.ensures.exact).0
