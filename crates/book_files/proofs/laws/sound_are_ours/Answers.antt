use Rattle.book_sessions.proofs.AuditParts.{sound_are_ours}
use Rattle.book_files.proofs.laws.sound_are_ours.Goals as goal

pub returns : goal.returns
returns c = sound_are_ours
