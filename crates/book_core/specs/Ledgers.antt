-- What is seen of a ledger, however it is kept.
use Rattle.std.specs.Prelude.{◌≡◌, Bool, true, false}
use Rattle.book_model.specs.Words.{Naming, Book}

-- What is seen of a ledger: its book; how it names records; the books that the next open may find,
-- if the program stops now; that it is to be reopened, since a store failed; that its storage
-- has returned what was written; and that a ledger wrote what is stored there.
pub record Seen : Type 1 where
  pub book : Book
  pub naming : Naming
  pub left : Book → Type 0
  pub must_reopen : Bool
  pub is_honest : Type 0
  pub is_books : Type 0

-- a ledger before and after a call
pub record Books : Type 1 where
  pub old : Seen
  pub new : Seen

-- the same, by what is seen of a ledger
abbrev pub books : {L : Type 0} → (L → Seen) → L → L → Books
books seen old new = record { old = seen old; new = seen new }

-- by whether the ledger is to be reopened:
abbrev pub may_have : Bool → Seen → Book → Type 0
may_have true seen book = seen.left book
may_have false seen book = book ≡ seen.book

-- The books may be these: the ledger's own; or, where it is to be reopened, any that an open may
-- find.
abbrev pub MayHave : Seen → Book → Type 0
MayHave seen book = may_have seen.must_reopen seen book

-- An open ledger has its own book alone to leave.
abbrev pub StopIsHarmless : Seen → Type 0
StopIsHarmless seen = seen.must_reopen ≡ false → (book : Book) → seen.left book → book ≡ seen.book

-- The ledger is open and has this book, and its storage is honest and holds books. So are
-- ledgers that were just made.
pub record IsOpenAt (names : Naming) (start : Book) (seen : Seen) : Type 0 where
  pub book : seen.book ≡ start
  pub naming : seen.naming ≡ names
  pub is_open : seen.must_reopen ≡ false
  pub honest : seen.is_honest
  pub books : seen.is_books

-- a ledger in memory: no store can fail, and a stop leaves nothing to open
abbrev pub in_memory : Naming → Book → Seen
in_memory naming book = record {
  book = book;
  naming = naming;
  left = λ found. ⊥;
  must_reopen = false;
  is_honest = Unit {0};
  is_books = Unit {0};
}
