-- Work on a ledger with the books of a history.
use Rattle.std.specs.Prelude.{◌≡◌, Bool, List, ◌++◌}
use Rattle.book_model.specs.Words.{AreMadeOf, Book, Event, book_of, IsMadeByCalls, Naming}
use Rattle.book_core.specs.Ledgers.{Seen, MayHave}
use Rattle.book_core.specs.Transition.{Transition}

-- the books can only be those of this history
abbrev pub AreOf : List Event → Seen → Type 0
AreOf history seen = (book : Book) → MayHave seen book → book ≡ book_of history

-- the book of the history continued by what the work made; where calls made the history, they
-- made all of it
pub record Continues (history : List Event) (old new : Seen) (Made : Transition) (book : Book)
    : Type 0 where
  pub events : List Event
  pub made : Made old.must_reopen (book_of history) events new.must_reopen
  pub answered : IsMadeByCalls old.naming history → IsMadeByCalls old.naming (events ++ history)
  pub is : book ≡ book_of (events ++ history)

-- such work makes of any book only what calls make of it
abbrev pub MakesAnswered : Naming → Transition → Type 0
MakesAnswered naming Made =
    (book : Book) (was : Bool) (events : List Event) (is : Bool) → Made was book events is
    → AreMadeOf naming book events

-- Where the books were those of a history, they are those of that history with the events of the
-- work more, looked at as a whole.
abbrev pub FollowsHistory : Seen → Seen → Transition → Type 0
FollowsHistory old new Made =
    new.is_honest → old.is_books → (history : List Event) → AreOf history old → (book : Book)
    → MayHave new book → Continues history old new Made book
