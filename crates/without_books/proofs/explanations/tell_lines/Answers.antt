use Rattle.std.proofs.Common.{inl, refl}
use Rattle.std.proofs.KnownBytes.{Appends-nil}
use Rattle.without_books.proofs.explanations.tell_lines.Goals as goal

pub returns-in-Err : goal.returns-in-Err
returns-in-Err g c = (inl refl, 0, Appends-nil _)
