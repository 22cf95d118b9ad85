use Rattle.smf_frames.proofs.Fronts.{is_front, only_front}
use Rattle.smf_frames.proofs.laws.front_is_the_standards.Goals as goal

pub returns : goal.returns
returns c = record { is = is_front; only = only_front }
