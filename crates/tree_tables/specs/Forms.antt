-- The form of books, which their file says by SQLite's user version.
use Rattle.std.specs.Prelude.{ℕ}

-- the form of the books that this program keeps; those of the first form say nothing, which is 0
abbrev pub this_form : ℕ
this_form = 3
