-- Which records are counted: those that the charge rows of some period have, open or closed.
use Rattle.std.specs.Prelude.{Bool, List, ℕ}
use Rattle.std.specs.List.{list_any}
use Rattle.book_model.specs.Sets.{has, those}
use Rattle.book_model.specs.Records.{Records}
use Rattle.book_model.specs.Periods.{Period}
use Rattle.book_model.specs.Books.{Book, all_periods}

-- the rows of one of these periods count the record
abbrev pub is_counted_in : List Period → List ℕ → Bool
is_counted_in periods bytes = list_any (λ (period : Period). has period.counted bytes) periods

-- the rows of some period of the book count it
abbrev pub is_counted : Book → List ℕ → Bool
is_counted book = is_counted_in (all_periods book)

-- the records that are counted
abbrev pub counted_of : Book → Records
counted_of book = those (is_counted book) book.held
