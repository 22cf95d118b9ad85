use Rattle.book_model.proofs.SoundLemmas.{steps_stay_sound}
use Rattle.book_model.proofs.laws.steps_stay_sound.Goals as goal

pub returns : goal.returns
returns c = steps_stay_sound
