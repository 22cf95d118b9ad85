use Rattle.std.proofs.Common.{◌≤◌, length, arith, ap, sym, subst}
use Rattle.std.proofs.lemmas.Bool.{eqb-true, eq-eqb}
use Rattle.smf_frames.specs.Joining.{Joining}
use Rattle.smf_frames.proofs.HeldFields.{held_len, four_held}
use Rattle.smf_frames.proofs.joiner.Joiner.has_descriptor.Goals as goal

pub returns : goal.returns
returns c =
    let j = c.self.inside in
    let held = ap (λ (k : Joining). length k.held) c.self.view_is in (
      λ is. omega (arith, held, held_len c.self.invariant, eqb-true j.received 4 is),
      λ four. eq-eqb j.received 4 (four_held c.self.invariant (subst (λ n. 4 ≤ n) (sym held) four)),
    )
