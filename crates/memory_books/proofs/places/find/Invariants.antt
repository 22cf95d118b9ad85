use Rattle.std.proofs.Common.{◌≡◌, None, take}
use Rattle.memory_books.specs.Kept.{books_at}
use Rattle.memory_books.proofs.places.find.Given as goal

-- none of those before has the name
abbrev pub invariant-loop-one : goal.invariant-loop-one
invariant-loop-one g l = books_at (take l.one-index l.kept) l.name ≡ None
