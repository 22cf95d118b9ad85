-- Work on a ledger, by one call or by many.
use Rattle.std.specs.Prelude.{◌≡◌, Bool, true, List, [], ◌++◌}
use Rattle.book_model.specs.Words.{Book, Event, after_all}
use Rattle.book_core.specs.Ledgers.{Seen, MayHave}

-- What work does to books: whether they were to be reopened before it, the book before it, the
-- events that it made of that book, the newest first, and whether the books are to be reopened now.
abbrev pub Transition : Type 1
Transition = Bool → Book → List Event → Bool → Type 0

-- no event, and the books stay open or closed as they were
pub record NoEvent (was : Bool) (before : Book) (events : List Event) (is : Bool) : Type 0 where
  pub none : events ≡ []
  pub same : is ≡ was

-- some work, and then other work
pub record Then (First Next : Transition) (was : Bool) (before : Book) (events : List Event) (is : Bool)
    : Type 0 where
  pub between : Bool
  pub early : List Event
  pub late : List Event
  pub first : First was before early between
  pub next : Next between (after_all early before) late is
  pub all : events ≡ late ++ early

-- a book that work made of one at which the ledger was
pub record ComesFrom (old new : Seen) (Made : Transition) (book : Book) : Type 0 where
  pub before : Book
  pub events : List Event
  pub stood : MayHave old before
  pub made : Made old.must_reopen before events new.must_reopen
  pub leads : book ≡ after_all events before

-- Whatever the books may be now, the work made them of what they may have been.
abbrev pub Moves : Seen → Seen → Transition → Type 0
Moves old new Made = (book : Book) → MayHave new book → ComesFrom old new Made book

-- A ledger that is to be reopened stays so, and what an open may find stays.
pub record IsLeftAlone (old new : Seen) : Type 0 where
  pub reopen : new.must_reopen ≡ true
  pub left : (book : Book) → old.left book → new.left book

-- Such work was done on a ledger. Records are named as before. Where its storage is honest
-- to the end, and held books in the beginning, it holds books in the end, and the work made them.
-- Where the ledger was to be reopened, it is left alone.
pub record IsTransition (old new : Seen) (Made : Transition) : Type 0 where
  pub naming : new.naming ≡ old.naming
  pub honest : new.is_honest → old.is_honest
  pub books : new.is_honest → old.is_books → new.is_books
  pub moves : new.is_honest → old.is_books → Moves old new Made
  pub alone : old.must_reopen ≡ true → IsLeftAlone old new
