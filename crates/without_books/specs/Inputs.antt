-- Files that are read by their names, and the clock.
use Rattle.std.specs.Prelude.{ℕ, ℤ, List, Option, None}
use Rattle.without_books.specs.declared.progress.WatchedReader.{WatchedReader}

-- what is known of the files of names, each of which holds such bytes, if that is known; and which day it is
-- by the clock, if there is one, counted from 1970-01-01
pub record Files : Type 0 where
  pub holds : List ℕ → Option (List ℕ)
  pub today : Option ℤ

-- what files of this machine hold is not known
abbrev pub unread_on : Option ℤ → Files
unread_on today = record { holds = λ name. None; today = today }

-- what a file has left of which it is shown how far it was read
abbrev pub watched_remaining : {R : Type 0} → (R → Option (List ℕ)) → WatchedReader R
    → Option (List ℕ)
watched_remaining remaining watched = remaining watched.inner
