-- Works on books, one after another, numbered from 0.
use Rattle.std.specs.Prelude.{◌≡◌, ℕ, zero, suc, Bool, false, List, [], ◌++◌}
use Rattle.book_model.specs.Words.{Book, Event, after_all}
use Rattle.book_core.specs.Transition.{Transition}

-- Each of them in turn, begun on books that were open, made events of the book that those before it
-- left: these are all of them, the newest first.
abbrev pub MakeInTurn : (ℕ → Transition) → ℕ → Book → List Event → Type 0
MakeInTurn work zero before events = events ≡ []
MakeInTurn work (suc number) before events =
    (early : List Event) × (late : List Event) × (is : Bool)
    × MakeInTurn work number before early
    × work number false (after_all early before) late is × (events ≡ late ++ early)
