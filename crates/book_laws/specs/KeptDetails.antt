-- What is kept of details: one row for each record that is counted, in their order. It is an index of
-- records by day, centre, shift, time and name, with all that a line of details shows.
use Rattle.std.specs.Prelude.{◌≡◌, ℕ, true, false, List, filter, Some, Ok, ℤ, int_lt}
use Rattle.std.specs.BTreeSet.{insert_key}
use Rattle.book_model.specs.declared.answer.Ruled.TheVariants.{Done}
use Rattle.book_model.specs.declared.detail.Detail.{Detail}
use Rattle.book_model.specs.Words.{day_of, Book, Event, IsMadeByCalls, IsSound, Naming, Period}
use Rattle.book_model.specs.Words.{Rulings, Terms, Records, book_after, by_detail, charged_of}
use Rattle.book_model.specs.Words.{close, close_answer, counted_of, detail_of, details_for}
use Rattle.book_model.specs.Words.{details_of, has, is_counted_in, is_dated_after, last_close}
use Rattle.book_model.specs.Words.{name_of, period_of, terms_answer, with, is_day_of}
use Rattle.table_model.specs.Readable.{IsReadable}

-- the rows that are kept
abbrev pub kept_details : Naming → Book → List Detail
kept_details naming book = details_for naming book.rulings (counted_of book)

-- no two of the records have one name
abbrev pub HasOwnNames : Naming → Records → Type 0
HasOwnNames naming records =
    (a b : List ℕ) → has records a ≡ true → has records b ≡ true
    → name_of naming a ≡ name_of naming b → a ≡ b

-- The details of a period, open or closed, are the kept rows of its days: no line is looked for, no
-- record is read, and nothing is sorted.
abbrev pub DetailsAreKept : Type 0
DetailsAreKept =
    (naming : Naming) (history : List Event) (number : ℕ) (period : Period)
    → IsMadeByCalls naming history
    → period_of (book_after history) number ≡ Some period
    → details_of naming (book_after history).rulings period
    ≡ filter (λ detail. is_day_of number (book_after history).rulings detail.priced.day)
    (kept_details naming (book_after history))

-- The same of any book that can be read back.
abbrev pub BookDetailsAreKept : Type 0
BookDetailsAreKept =
    (naming : Naming) (book : Book) (number : ℕ) (period : Period)
    → IsReadable naming book
    → period_of book number ≡ Some period
    → details_of naming book.rulings period
    ≡ filter (λ detail. is_day_of number book.rulings detail.priced.day) (kept_details naming book)

-- How the kept rows follow a book. Of what is dated after the last close those are kept that are
-- charged: a row comes and goes with the mark of its record. Of what is dated no later no row comes or
-- goes, whatever becomes of the record. A close changes none.
pub record CountedFollows : Type 0 where
  pub current :
      (naming : Naming) (book : Book) (bytes : List ℕ) → IsSound naming book
      → is_dated_after (last_close book.rulings) bytes ≡ true
      → has (counted_of book) bytes ≡ has (charged_of book) bytes
  pub settled :
      (naming : Naming) (book : Book) (bytes : List ℕ) → IsSound naming book
      → is_dated_after (last_close book.rulings) bytes ≡ false
      → has (counted_of book) bytes ≡ is_counted_in book.past bytes
  pub close :
      (naming : Naming) (book : Book) (number : ℕ) (day : ℤ) → IsSound naming book
      → close_answer book.rulings number day ≡ Ok Done
      → counted_of (close day book) ≡ counted_of book

-- The records that a tariff is for have a kept row or are not charged: so a tariff that comes late
-- reads the rows from its first day on, and the records that are not charged, and no other record.
abbrev pub TariffsReadKept : Type 0
TariffsReadKept =
    (naming : Naming) (book : Book) (text : List ℕ) (terms : Terms) (bytes : List ℕ)
    → IsSound naming book
    → terms_answer book text terms ≡ Ok Done
    → has book.held bytes ≡ true
    → int_lt (day_of bytes) terms.effective ≡ false
    → has (counted_of book) bytes ≡ has (charged_of book) bytes

-- A row joins the kept ones in its place; and it goes as it came, by the same equation read from the
-- right.
abbrev pub RowsJoinAndGo : Type 0
RowsJoinAndGo =
    (naming : Naming) (rulings : Rulings) (records : Records) (bytes : List ℕ) (detail : Detail)
    → HasOwnNames naming (with records bytes)
    → has records bytes ≡ false
    → detail_of naming rulings bytes ≡ Some detail
    → details_for naming rulings (with records bytes)
    ≡ insert_key by_detail (details_for naming rulings records) detail
