-- Kept details: the details of a period are those of its days, and they follow the book.
use Rattle.std.proofs.Common.{◌≡◌, ℕ, List, refl, ap, ◌∙◌, true, false, Option, Some, None, ℤ, ◌<ℤ◌}
use Rattle.std.proofs.Common.{filter, int_lt, MatchOption, arith}
use Rattle.book_model.proofs.Std.{ints}
use Rattle.book_model.specs.Words.{day_of, Book, IsSound, Naming, Period, book_after, charged_of}
use Rattle.book_model.specs.Words.{counted_of, details_for, details_of, has, is_counted}
use Rattle.book_model.specs.Words.{is_dated_after, is_dated_in, last_close, is_day_of, those}
use Rattle.book_model.proofs.Lemmas.{calls_go_forward, current_is, sound_after, in_those}
use Rattle.book_model.proofs.CountedDays.{has_counted_of}
use Rattle.book_model.proofs.CountedLemmas.{close_leaves, settled_is}
use Rattle.book_model.proofs.DetailLemmas.{detail_joins, details_those}
use Rattle.table_model.proofs.DetailReading.{dated_alike, in_windows}
use Rattle.book_laws.specs.KeptDetails.{BookDetailsAreKept, CountedFollows, DetailsAreKept}
use Rattle.book_laws.specs.KeptDetails.{RowsJoinAndGo, TariffsReadKept, kept_details}
use Rattle.book_laws.proofs.CountedLemmas.{counted_by_day, counted_in_days}
use Rattle.book_laws.proofs.ReadLemmas.{named}

-- of a sound book, what is kept for the days of a period are its details
kept_for_days : (naming : Naming) (book : Book) → IsSound naming book → (number : ℕ)
    (period : Period) → period.counted ≡ those (is_dated_in book.rulings number) (counted_of book)
    → details_of naming book.rulings period
    ≡ filter (λ detail. is_day_of number book.rulings detail.priced.day) (kept_details naming book)
kept_for_days naming book sound number period counted =
    let held : (bytes : List ℕ) → has (counted_of book) bytes ≡ true → has book.held bytes ≡ true =
    λ bytes there. in_those (is_counted book) book.held bytes there in
    ap (details_for naming book.rulings) counted
    ∙ details_those naming book.rulings (counted_of book)
    (named naming book sound (counted_of book) held) (is_dated_in book.rulings number)
    (λ detail. is_day_of number book.rulings detail.priced.day)
    (dated_alike naming book.rulings number)

-- the law, of books that can be read back
pub book_details_are_kept : BookDetailsAreKept
book_details_are_kept naming book number period whole found =
    kept_for_days naming book whole.sound number period
    (counted_in_days naming book whole.sound whole.in_order (in_windows naming book whole) number
    period found)

-- and of histories
pub details_are_kept : DetailsAreKept
details_are_kept naming history number period answered found =
    kept_for_days naming (book_after history) (sound_after naming history answered) number period
    (counted_by_day naming history number period answered found)

-- what is dated after the last close is counted where it is charged
current_counted : (naming : Naming) (book : Book) (bytes : List ℕ) → IsSound naming book
    → is_dated_after (last_close book.rulings) bytes ≡ true
    → has (counted_of book) bytes ≡ has (charged_of book) bytes
current_counted naming book bytes sound late =
    has_counted_of naming book sound bytes
    ∙ current_is naming book sound bytes (charged_of book) late

-- the law
pub counted_follows : CountedFollows
counted_follows = record {
  current = current_counted;
  settled = λ naming book bytes sound early.
      has_counted_of naming book sound bytes ∙ settled_is book (charged_of book) bytes early;
  close = λ naming book number day sound done.
      close_leaves book day (calls_go_forward.close book number day done);
}

-- what is dated no earlier than a day that comes after a close is dated after that
not_before : (last : Option ℤ) (day : ℤ) (bytes : List ℕ)
    → MatchOption last (Unit {0}) (λ close. close <ℤ day) → int_lt (day_of bytes) day ≡ false
    → is_dated_after last bytes ≡ true
not_before None day bytes later from = refl
not_before (Some close) day bytes later from = grind (arith, ints)

-- the law
pub tariffs_read_kept : TariffsReadKept
tariffs_read_kept naming book text terms bytes sound done held from =
    current_counted naming book bytes sound
    (not_before (last_close book.rulings) terms.effective bytes
    (calls_go_forward.tariff book text terms done) from)

-- the law
pub rows_join_and_go : RowsJoinAndGo
rows_join_and_go naming rulings records bytes detail apart new is =
    detail_joins naming rulings records bytes detail apart new is
