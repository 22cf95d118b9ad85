use Rattle.std.proofs.Common.{ap, sym, ◌∙◌, cond, Some, None}
use Rattle.smf_frames.specs.Joining.{Joining}
use Rattle.smf_frames.proofs.JoinerStates.{standing_framed}
use Rattle.smf_frames.proofs.joiner.Joiner.record.Goals as goal

pub returns-then-self-clause-framed : goal.returns-then-self-clause-framed
returns-then-self-clause-framed c = λ text stands.
    let whole = c.self.inside.joined.items in
    standing_framed text c.args.self.now stands c.deref.result.now
    (sym (ap (λ (j : Joining). j.ready) c.self.view_is)
    ∙ ap (λ b. cond b (Some whole) None) c.if-self.true
    ∙ ap Some (sym c.deref.ensures.value))
