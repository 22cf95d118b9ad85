-- What is known of books in memory: all of it.
use Rattle.std.specs.Prelude.{◌≡◌, ⊤, false, ℕ, List, Option, None, Some}
use Rattle.book_model.specs.Words.{Event, Naming, book_of}
use Rattle.book_model.specs.declared.fault.LedgerFault.TheVariants as ledger
use Rattle.book_audit.specs.Counts.{AreCountsOf}
use Rattle.book_audit.specs.Texts.{sound_text}
use Rattle.book_audit.specs.declared.audited.Counts.{Counts}
use Rattle.book_core.specs.Ledgers.{Seen}
use Rattle.named_books.specs.Shelves.{Shelf}
use Rattle.named_books.specs.declared.repository.RepositoryFault.{RepositoryFault}
use Rattle.named_books.specs.declared.repository.RepositoryFault.TheVariants.{Exists, Io, Ledger}
use Rattle.named_books.specs.declared.repository.Upgraded.{Upgraded}
use Rattle.named_books.specs.declared.repository.Upgraded.TheVariants.{Already}
use Rattle.memory_books.specs.declared.places.Kept.{Kept}
use Rattle.memory_books.specs.declared.shelf.MemoryBooks.{MemoryBooks}
use Rattle.memory_books.specs.Kept.{books_at}

-- these are books, and the book that they are is that of a history
pub record Holds {L : Type 0} (seen : L → Seen) (found : Option L) (history : List Event) : Type 0 where
  pub books : L
  pub here : found ≡ Some books
  pub is : (seen books).book ≡ book_of history

-- Why a name is refused: nothing has it, or something has, by what is asked; or memory ran out. No other
-- program has it, and no store fails.
abbrev pub RefusedFor : {L : Type 0} → RepositoryFault → Option L → Type 0
RefusedFor Io None = ⊤
RefusedFor Exists (Some books) = ⊤
RefusedFor (Ledger ledger.Memory) found = ⊤
RefusedFor fault found = ⊥

-- the text of an audit: the counts of what is there
pub record Counted {L : Type 0} (seen : L → Seen) (found : Option L) (text : List ℕ) : Type 0 where
  pub books : L
  pub here : found ≡ Some books
  pub counts : Counts
  pub are : AreCountsOf (seen books).book counts
  pub says : text ≡ sound_text counts

-- books of this form alone are there
pub record IsOfThisForm {L : Type 0} (found : Option L) (told : Upgraded) : Type 0 where
  pub books : L
  pub here : found ≡ Some books
  pub says : told ≡ Already

-- The shelf: a name holds the histories of its book, and no other; it is free where no books have it.
abbrev pub shelf_of : {L : Type 0} → (L → Seen) → Naming → List (Kept L) → Shelf
shelf_of seen names kept = record {
  naming = names;
  holds = λ name history. Holds seen (books_at kept name) history;
  is_free = λ name. books_at kept name ≡ None;
  has_log = λ name is. is ≡ false;
  refuses = λ name fault. RefusedFor fault (books_at kept name);
  upgrades = λ name told. IsOfThisForm (books_at kept name) told;
  audits = λ name text. Counted seen (books_at kept name) text;
}

abbrev pub memory_shelf : {L : Type 0} → (L → Seen) → Naming → MemoryBooks L → Shelf
memory_shelf seen names place = shelf_of seen names place.kept.items
