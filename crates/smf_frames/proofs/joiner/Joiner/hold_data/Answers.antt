use Rattle.std.proofs.Common.{arith}
use Rattle.smf_frames.proofs.PassedFields.{room_left}
use Rattle.smf_frames.proofs.joiner.Joiner.hold_data.Goals as goal

pub unwrap-requires : goal.unwrap-requires
unwrap-requires c =
    let room = room_left c.self.invariant c.args.self.now c.self.view_is c.requires.none
    c.requires.on _ c.requires.fit in
    c.extend_from_slice.ensures.succeeds
    (omega (arith, c.self.invariant.room, c.self.inside.joined.ok.0))
