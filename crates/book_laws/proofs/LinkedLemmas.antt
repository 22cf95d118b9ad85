-- The periods of a history are linked by what its closes charged, as those are of a book that can
-- be read back.
use Rattle.std.proofs.Common.{◌≡◌, ℕ, zero, suc, ◌≤◌, List, [], ◌∷◌, ◌++◌, length, refl, sym, ap}
use Rattle.std.proofs.Common.{◌∙◌, subst, true, true≢false, Bool, ◌&&◌, Option, Some, None, get_or}
use Rattle.std.proofs.Common.{arith, ℤ, pos, int_lt, slice_get}
use Rattle.book_model.proofs.Std.{option_map_or, slice_get-get_or}
use Rattle.book_model.specs.Words.{AreDatedThrough, Book, Event, Records, Rulings, book_after}
use Rattle.book_model.specs.Words.{book_of, charged_by, charged_in, closes, day_of, day_of_close}
use Rattle.book_model.specs.Words.{has, held_before, is_dated_after, is_dated_through}
use Rattle.book_model.specs.Words.{is_undisputed, last_close, period_by, periods, rulings}
use Rattle.book_model.specs.Words.{rulings_before}
use Rattle.book_model.proofs.Lemmas.{books_follow_history, none_in, not_true, passes_those}
use Rattle.book_model.proofs.Lemmas.{second_of}
use Rattle.table_model.specs.Readable.{IsChain}
use Rattle.table_model.specs.Words.{chained, close_after}
use Rattle.table_model.proofs.CountedReading.{last_after}

-- what a close charges is dated through it
pub charged_dated : (ruled : Rulings) (through : Option ℤ) (held : Records) (bytes : List ℕ)
    → has (charged_by ruled through held) bytes ≡ true
    → option_map_or (λ day. is_dated_through day bytes) through true ≡ true
charged_dated ruled None held bytes there = refl
charged_dated ruled (Some day) held bytes there =
    let undisputed : List ℕ → Bool = is_undisputed ruled held in
    second_of (undisputed bytes) (is_dated_through day bytes)
    (passes_those (λ b. undisputed b && is_dated_through day b) held bytes there)

-- the day of a close, by either word
same_day : (k : ℕ) (history : List Event) → day_of_close k history ≡ close_after k (closes history)
same_day zero history = refl
same_day (suc k) history = refl

-- each period is made of what was charged before it and at its end,
periods_linked : (n : ℕ) (history : List Event)
    → periods n history ≡ chained n (closes history) (λ k. charged_in k history)
periods_linked zero history = refl
periods_linked (suc n) history =
    let earlier = periods_linked n history in
    let last = same_day n history in
    λ i. earlier i ++ period_by (last i) (charged_in n history) (charged_in (suc n) history) ∷ []

-- and nothing of that is dated after the close
charged_early : (k : ℕ) (history : List Event) → k ≤ length (closes history)
    → AreDatedThrough (close_after k (closes history)) (charged_in k history)
charged_early zero history within bytes there = absurd (true≢false (sym there ∙ none_in bytes))
charged_early (suc k) history within bytes there =
    let days : List ℤ = closes history in
    let day : ℤ = get_or days k (pos 0) in
    let its : slice_get days k ≡ Some day =
    slice_get-get_or days k (pos 0) (omega (arith, within)) in
    let dated : is_dated_through day bytes ≡ true =
    subst (λ through. option_map_or (λ day. is_dated_through day bytes) through true ≡ true) its
    (charged_dated (rulings_before k (rulings history)) (slice_get days k)
    (held_before (suc k) history) bytes there) in
    ap (λ close. is_dated_after close bytes) its ∙ not_true (int_lt day (day_of bytes)) dated

-- so the book of a history is linked, whatever its events are
linked_of : (history : List Event) → IsChain (book_of history)
linked_of history = record {
  charged = λ k. charged_in k history;
  past = periods_linked (length (closes history)) history;
  posted = refl;
  dated = λ k within. charged_early k history within;
}

pub linked_after : (history : List Event) → IsChain (book_after history)
linked_after history = subst IsChain (sym (books_follow_history history)) (linked_of history)

-- what the last close of a linked book charged is not dated after it
pub posted_early : (book : Book) → IsChain book
    → AreDatedThrough (last_close book.rulings) book.posted
posted_early book linked bytes there =
    let days : List ℤ = book.rulings.closes in
    ap (λ close. is_dated_after close bytes) (last_after days)
    ∙ linked.dated (length days) (omega arith) bytes
    (ap (λ records. has records bytes) (sym linked.posted) ∙ there)
