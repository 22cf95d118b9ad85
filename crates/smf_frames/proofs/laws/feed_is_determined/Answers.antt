use Rattle.smf_frames.proofs.FeedDetermined.{determined}
use Rattle.smf_frames.proofs.laws.feed_is_determined.Goals as goal

pub returns : goal.returns
returns c = determined
