use Rattle.std.proofs.Common.{◌≡◌}
use Rattle.book_files.proofs.Told.{comes_on}
use Rattle.book_files.proofs.machine.Machine.visit_books.Goals as goal

pub returns-in-Ok : goal.returns-in-Ok
returns-in-Ok g c =
    let visited = c.visit_at-answer in
    comes_on (g.V.Visit.comes c.args.visit.now visited.new.visit)
    (visited.new.visit ≡ c.args.visit.now) visited.result.0 visited.result.1 c.released.result.answer
    c.released.ensures.told visited.ensures.came
