use Rattle.std.proofs.Common.{◌+◌, length}
use Rattle.smf_frames.proofs.FeedSteps.{Fed}
use Rattle.smf_frames.proofs.joiner.Joiner.feed.Given as goal

abbrev pub invariant-loop-self : goal.invariant-loop-self
invariant-loop-self l = record { fed : Fed l.fn.self l.piece l.rest l.self }

abbrev pub decreases-loop-self : goal.decreases-loop-self
decreases-loop-self l = length l.self.held + length l.rest
