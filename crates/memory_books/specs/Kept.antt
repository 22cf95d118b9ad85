-- Books in a list, each under its name.
use Rattle.std.specs.Prelude.{◌≡◌, ◌<◌, cond, ℕ, List, [], ◌∷◌, ◌++◌, Option, None, Some, Result}
use Rattle.std.specs.Prelude.{Ok, Err, get_or, length, string_bytes, take}
use Rattle.std.specs.declared.alloc.AllocError.{AllocError}
use Rattle.book_model.specs.Words.{Naming, same_bytes}
use Rattle.book_core.specs.Words.{Seen, Transition, IsTransition}
use Rattle.named_books.specs.declared.repository.RepositoryFault.{RepositoryFault}
use Rattle.named_books.specs.declared.repository.RepositoryFault.TheVariants.{Ledger}
use Rattle.memory_books.specs.declared.places.Kept.{Kept}
use Rattle.book_model.specs.declared.fault.LedgerFault.TheVariants as ledger

-- the books of a name: the first that have it
abbrev pub books_at : {L : Type 0} → List (Kept L) → List ℕ → Option L
books_at [] name = None
books_at (one ∷ more) name =
    cond (same_bytes (string_bytes one.name) name) (Some one.books) (books_at more name)

-- The list with other books in the place of these, under the same name.
pub record Puts {L : Type 0} (name : List ℕ) (before after : L) (old new : List (Kept L)) : Type 0 where
  pub was : books_at old name ≡ Some before
  pub is : books_at new name ≡ Some after
  pub others : (other : List ℕ) → (other ≡ name → ⊥) → books_at new other ≡ books_at old other

-- these are the books of the name; or there are none
abbrev pub Finds : {L : Type 0} → List (Kept L) → List ℕ → Option L → Type 0
Finds kept name found = books_at kept name ≡ found

-- The first books of the name are here in the list.
pub record IsAt {L : Type 0} (kept : List (Kept L)) (name : List ℕ) (at : ℕ) : Type 0 where
  pub small : at < length kept
  pub before : books_at (take at kept) name ≡ None
  pub named : (one : Kept L) → one ≡ get_or kept at one → string_bytes one.name ≡ name

-- this is where they are; or there are none
abbrev pub IsPlaceOf : {L : Type 0} → List (Kept L) → List ℕ → Option ℕ → Type 0
IsPlaceOf kept name None = books_at kept name ≡ None
IsPlaceOf kept name (Some at) = IsAt kept name at

-- The books of a name were visited, and this came of it; or there are none.
abbrev pub Visits : {L V A : Type 0} → (L → Seen) → (Naming → V → V → A → Transition)
    → (V → V → A → Type 0) → V → V → List ℕ → List (Kept L) → List (Kept L) → Option A → Type 0
Visits seen work comes before after name old new None =
    (books_at old name ≡ None) × (new ≡ old) × (after ≡ before)
Visits {L} seen work comes before after name old new (Some answer) =
    (one : L) × (two : L) × Puts name one two old new
    × IsTransition (seen one) (seen two) (work (seen one).naming before after answer)
    × comes before after answer

-- books were added under a name, after the others
abbrev pub Adds : {L : Type 0} → List ℕ → L → List (Kept L) → List (Kept L)
    → Result (Unit {0}) AllocError → Type 0
Adds {L} name books old new (Ok done) = (one : Kept L) × (string_bytes one.name ≡ name)
    × (one.books ≡ books) × (new ≡ old ++ one ∷ [])
Adds name books old new (Err none) = new ≡ old

-- so they were, unless memory ran out
abbrev pub Keeps : {L : Type 0} → List ℕ → L → List (Kept L) → List (Kept L)
    → Result (Unit {0}) RepositoryFault → Type 0
Keeps {L} name books old new (Ok done) = (one : Kept L) × (string_bytes one.name ≡ name)
    × (one.books ≡ books) × (new ≡ old ++ one ∷ [])
Keeps name books old new (Err fault) = (fault ≡ Ledger ledger.Memory) × (new ≡ old)

-- A visit of a copy, which nobody keeps.
pub record VisitsCopy {L V A : Type 0} (seen : L → Seen) (work : Naming → V → V → A → Transition)
    (comes : V → V → A → Type 0) (before after : V) (copy : L) (answer : A) : Type 0 where
  pub left : L
  pub made : IsTransition (seen copy) (seen left) (work (seen copy).naming before after answer)
  pub came : comes before after answer
