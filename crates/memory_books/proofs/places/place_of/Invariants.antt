use Rattle.std.proofs.Common.{◌≡◌, None, take}
use Rattle.memory_books.specs.Kept.{books_at}
use Rattle.memory_books.proofs.places.place_of.Given as goal

-- none of those before has the name
abbrev pub invariant-loop-i : goal.invariant-loop-i
invariant-loop-i g l = books_at (take l.i l.kept) l.name ≡ None
