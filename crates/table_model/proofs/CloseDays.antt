-- The days of closes in their order, the periods that they end and open, and what they post.
use Rattle.std.proofs.Common.{◌≡◌, ℕ, List, [], ◌∷◌, ◌++◌, refl, ap, true, false, true≢false, Bool}
use Rattle.std.proofs.Common.{Option, Some, None, arith, ℤ, int_lt, ◌<ℤ◌, MatchOption}
use Rattle.std.proofs.lemmas.Int.{ints}
use Rattle.book_model.specs.Words.{Book, all_periods, close, last_close, Records, Period, period_by}
use Rattle.book_model.specs.Words.{charged_of, charged_through, is_dated_after, is_after}
use Rattle.book_model.proofs.ListLemmas.{last_or-behind}

-- a record is current: it is dated after the last close of a book
abbrev pub is_current : Book → List ℕ → Bool
is_current book = is_dated_after (last_close book.rulings)

-- the records that a close posts, by its day
abbrev pub posted_by : ℤ → Book → Records
posted_by day book = charged_through book.rulings day book.held

-- the period that it closes
abbrev pub ended_by : ℤ → Book → Period
ended_by day book = period_by (last_close book.rulings) book.posted (posted_by day book)

-- and the one that it opens
abbrev pub opened_by : ℤ → Book → Period
opened_by day book = period_by (Some day) (posted_by day book) (charged_of book)

-- these two are the last periods after the close
pub periods_closed : (book : Book) (day : ℤ) → all_periods (close day book)
    ≡ (book.past ++ ended_by day book ∷ []) ++ opened_by day book ∷ []
periods_closed book day =
    ap (λ last. (book.past ++ ended_by day book ∷ [])
    ++ period_by last (posted_by day book) (charged_of book) ∷ [])
    (last_or-behind None book.rulings.closes day)

-- a day after a close is after one before it
pub after_both : (last : Option ℤ) (close day : ℤ)
    → MatchOption last (Unit {0}) (λ before. before <ℤ close) → int_lt close day ≡ true
    → is_after last day ≡ true
after_both None close day forward after = refl
after_both (Some before) close day forward after = grind (arith, ints)

-- a day that is not after a close is not after a later one
pub not_after_both : (last : Option ℤ) (close day : ℤ)
    → MatchOption last (Unit {0}) (λ before. before <ℤ close) → is_after last day ≡ false
    → int_lt close day ≡ false
not_after_both None close day forward early = absurd (true≢false early)
not_after_both (Some before) close day forward early = grind (arith, ints)
