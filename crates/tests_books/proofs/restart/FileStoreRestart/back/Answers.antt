use Rattle.book_trees.proofs.Trees.{has_trees}
use Rattle.tests_books.proofs.restart.FileStoreRestart.back.Goals as goal

-- a store that keeps books has their trees
pub returns-in-Ok-true : goal.returns-in-Ok-true
returns-in-Ok-true g c =
    let kept = c.in-Ok-true.ensures.0 c.in-Ok-true.field-0-test in
    record { shaped = λ clean. has_trees c.crash_and_reopen.new.self kept.1 kept.2 }
