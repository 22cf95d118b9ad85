-- What is done to books that are kept by their names.
use Rattle.std.specs.Prelude.{◌≡◌, ◌≢◌, ◌⊎◌, ℕ, Bool, false, List, [], ◌++◌, Result, Ok, Err}
use Rattle.std.specs.Prelude.{IfErr, OnOk, OnErr}
use Rattle.book_model.specs.Words.{Book, Event, Naming, book_after}
use Rattle.book_core.specs.Transition.{Transition, NoEvent}
use Rattle.named_books.specs.declared.repository.RepositoryFault.{RepositoryFault}
use Rattle.named_books.specs.declared.repository.RepositoryFault.TheVariants.{Unseen}
use Rattle.named_books.specs.declared.repository.Upgraded.{Upgraded}

-- What is known of the books that are kept somewhere: how they name records; which history the books
-- of a name hold, as the next opening finds them; that there is nothing under a name; whether a log
-- beside the books of a name holds a part of them; and why a call on a name may be refused, what an
-- upgrade of it may tell, and which text an audit of it may have. Only a call shows these three, so a
-- clause can say that nothing else is told.
pub record Shelf : Type 1 where
  pub naming : Naming
  pub holds : List ℕ → List Event → Type 0
  pub is_free : List ℕ → Type 0
  pub has_log : List ℕ → Bool → Type 0
  pub refuses : List ℕ → RepositoryFault → Type 0
  pub upgrades : List ℕ → Upgraded → Type 0
  pub audits : List ℕ → List ℕ → Type 0

-- where they are kept in files nothing is known, whatever the files hold
abbrev pub unknown : Naming → Shelf
unknown naming = record {
  naming = naming;
  holds = λ book history. ⊥;
  is_free = λ book. ⊥;
  has_log = λ book is. Unit {0};
  refuses = λ book fault. Unit {0};
  upgrades = λ book told. Unit {0};
  audits = λ book text. Unit {0};
}

-- The same is known of books: they are where they were, a name that was free is free, a call is refused
-- for no other reasons, an upgrade tells nothing else, and an audit has no other text.
pub record IsSameShelf (old new : Shelf) : Type 0 where
  pub naming : new.naming ≡ old.naming
  pub holds : (book : List ℕ) (history : List Event) → old.holds book history → new.holds book history
  pub free : (book : List ℕ) → old.is_free book → new.is_free book
  pub refuses : (book : List ℕ) (fault : RepositoryFault) → new.refuses book fault
      → old.refuses book fault
  pub upgrades : (book : List ℕ) (told : Upgraded) → new.upgrades book told → old.upgrades book told
  pub audits : (book text : List ℕ) → new.audits book text → old.audits book text

-- Work on books that were opened anew, whatever was before, and whatever is left to be opened again.
pub record OpenedAnew (Made : Transition) (was : Bool) (before : Book) (events : List Event) (is : Bool)
    : Type 0 where
  pub left : Bool
  pub made : Made false before events left

-- Books of this history now hold one that goes on with what such work made of it. (`HoldsMore` of
-- book_import is about the records of two books.)
pub record HoldsMore (Made : Transition) (history : List Event) (Holds : List Event → Type 0) : Type 0
  where
    pub events : List Event
    pub is : Bool
    pub made : Made false (book_after history) events is
    pub now : Holds (events ++ history)

-- so do books, whatever history they held
abbrev pub GoOn : Transition → (List Event → Type 0) → (List Event → Type 0) → Type 0
GoOn Made Held Holds = (history : List Event) → Held history → HoldsMore Made history Holds

-- Such work was done on the books of a name, and nothing was done to others: no other name was taken.
pub record IsDoneTo (book : List ℕ) (Made : Transition) (old new : Shelf) : Type 0 where
  pub naming : new.naming ≡ old.naming
  pub here : GoOn Made (old.holds book) (new.holds book)
  pub elsewhere : (other : List ℕ) → other ≢ book → GoOn NoEvent (old.holds other) (new.holds other)
  pub free : (other : List ℕ) → other ≢ book → old.is_free other → new.is_free other

-- nothing was done to any books; the name is that of books that might have been visited
abbrev pub IsUntouched : List ℕ → Shelf → Shelf → Type 0
IsUntouched book old new = IsDoneTo book NoEvent old new

-- What is so where books have no answer: they were as they are, unless they were open, and it was not
-- seen that their closed files hold them.
abbrev pub WhereUnopened : Type 0 → Type 0 → RepositoryFault → Type 0
WhereUnopened Visited Untouched Unseen = Visited ⊎ Untouched
WhereUnopened Visited Untouched fault = Untouched

-- The books of a name were opened, visited once and closed, and this came of it; or the place
-- refused them, as it was before.
abbrev pub IsOpened : {A : Type 0} → (A → Transition) → List ℕ → Shelf → Shelf
    → Result A RepositoryFault → Type 0
IsOpened work book old new (Ok answer) = IsDoneTo book (work answer) old new
IsOpened {A} work book old new (Err fault) = old.refuses book fault
    × WhereUnopened ((answer : A) × IsDoneTo book (work answer) old new)
    (IsUntouched book old new) fault

-- Books of a name were visited as a copy: what a visit did, it did to the book that they hold, whatever
-- history that is of.
abbrev pub TriesOn : Transition → List ℕ → Shelf → Type 0
TriesOn Made book shelf = (history : List Event) → shelf.holds book history
    → (events : List Event) × (is : Bool) × Made false (book_after history) events is

-- They are as they were, whatever it made of the copy; so they are where none was visited.
abbrev pub IsTried : {A : Type 0} → (A → Transition) → List ℕ → Shelf → Shelf
    → Result A RepositoryFault → Type 0
IsTried work book old new (Ok answer) = IsUntouched book old new × TriesOn (work answer) book old
IsTried work book old new (Err fault) = old.refuses book fault × IsUntouched book old new

-- Books that were opened were there; where they were refused, a name that was free is free still.
abbrev pub IsThere : {A : Type 0} → List ℕ → Shelf → Shelf → Result A RepositoryFault → Type 0
IsThere book old new (Ok answer) = old.is_free book → ⊥
IsThere book old new (Err fault) = old.is_free book → new.is_free book

-- What is so by what came of an opening: this of the visit's answer; or the visit is as it was.
abbrev pub ComesBy : {A : Type 0} → (A → Type 0) → Type 0 → Result A RepositoryFault → Type 0
ComesBy Came Same (Ok answer) = Came answer
ComesBy {A} Came Same (Err fault) = WhereUnopened ((answer : A) × Came answer) Same fault

-- Where this name was given, no books had it before.
abbrev pub TakesName : {A : Type 0} → List ℕ → Shelf → Result A RepositoryFault → Type 0
TakesName book old result = OnOk result ((history : List Event) → old.holds book history → ⊥)

-- New books were made under a name that no books had: if it was free, they hold no history. Or the
-- place refused it, and it is free still. Books that were there are as they were, and no other name
-- was taken.
pub record IsMade (book : List ℕ) (old new : Shelf) (result : Result (Unit {0}) RepositoryFault)
    : Type 0 where
  pub kept : IsUntouched book old new
  pub name : TakesName book old result
  pub made : OnOk result (old.is_free book → new.holds book [])
  pub refused : OnErr result (old.is_free book → new.is_free book)
  pub why : IfErr result (old.refuses book)
