-- The day that a period was closed through.
use Rattle.std.specs.Prelude.{ℕ, ℤ, Option, Ok}
use Rattle.book_model.specs.Words.{through_of, Book, Outcome, no_event}

-- the day that a period was closed through, if it is closed
abbrev pub closed_through : Book → ℕ → Option ℤ
closed_through book period = through_of period book.rulings

-- that day, as a ledger is asked for it
abbrev pub closed_through_outcome : ℕ → Book → Outcome (Option ℤ)
closed_through_outcome period book = no_event (Ok (closed_through book period))
