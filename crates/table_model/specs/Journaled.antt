-- What is always true of the journal of a book that calls made.
use Rattle.std.specs.Prelude.{◌≡◌, ℕ, ◌≤◌, false, List}
use Rattle.book_model.specs.Words.{Book, Entry, Records, has, times_kept}

-- Entries of a book that holds these records: what is not held no import kept, and no record was
-- kept by two.
pub record AreEntries (records : Records) (entries : List Entry) : Type 0 where
  pub held : (bytes : List ℕ) → has records bytes ≡ false → times_kept entries bytes ≡ 0
  pub once : (bytes : List ℕ) → times_kept entries bytes ≤ 1

-- so is the journal of a book
abbrev pub IsJournaled : Book → Type 0
IsJournaled book = AreEntries book.held book.journal
