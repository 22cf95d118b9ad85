use Rattle.std.proofs.Common.{inl, inr, rules}
use Rattle.chargectl.proofs.program.run_noted.Goals as goal

pub returns-in-Ok : goal.returns-in-Ok
returns-in-Ok g c = inl (search rules)

-- there was no memory for the note
pub returns-in-Err : goal.returns-in-Err
returns-in-Err g c = inr (search rules)
