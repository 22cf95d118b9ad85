use Rattle.std.proofs.Common.{◌≡◌}
use Rattle.book_files.proofs.repository.Files.wait_to_visit.Given as goal

-- the visit is as it was: the books were in use each time
abbrev pub invariant-loop : goal.invariant-loop
invariant-loop g l = l.visit ≡ l.initial.visit
