use Rattle.std.proofs.Common.{ap, ◌∙◌}
use Rattle.smf_frames.specs.Front.{data_len}
use Rattle.smf_frames.specs.Joining.{Joining}
use Rattle.smf_frames.proofs.HeldFields.{begun_len}
use Rattle.smf_frames.proofs.joiner.Joiner.begun.Goals as goal

pub returns-then-self-clause-exact : goal.returns-then-self-clause-exact
returns-then-self-clause-exact c =
    begun_len c.self.invariant c.if-self.true
    ∙ ap (λ (j : Joining). data_len j.position.begun) c.self.view_is
