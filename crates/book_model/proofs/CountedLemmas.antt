-- Which records are counted: of what is dated after the last close those that are charged, and of
-- what is dated no later those that a closed period counts. A close changes none.
use Rattle.std.proofs.Common.{◌≡◌, ℕ, suc, List, [], ◌∷◌, ◌++◌, refl, sym, ap, ◌∙◌, true, false}
use Rattle.std.proofs.Common.{true≢false, Bool, not, ◌&&◌, ◌||◌, Option, Some, None, arith, All, ℤ}
use Rattle.std.proofs.Common.{int_lt, ◌<ℤ◌, MatchOption}
use Rattle.std.proofs.Math.Bool.{and-true, or-false}
use Rattle.book_model.proofs.Std.{list_any, false_from_ne_true, ints, All-weaker, list_any-append}
use Rattle.book_model.specs.Words.{day_of, Book, charged_of, charged_through, is_dated_after}
use Rattle.book_model.specs.Words.{is_dated_through, is_undisputed, counted_of, is_counted}
use Rattle.book_model.specs.Words.{is_counted_in, close, IsAfterLastClose, Period, period_by}
use Rattle.book_model.specs.Words.{Naming, Records, last_close, has, those, AreAllDatedThrough}
use Rattle.book_model.specs.Words.{AreAmong, AreHeld, IsSound}
use Rattle.book_model.proofs.ListLemmas.{last_or-behind}
use Rattle.book_model.proofs.RecordSets.{has_those}
use Rattle.book_model.proofs.SetChanges.{those-agree}

-- what holds wherever an element passes a test holds where one is found
pub holds_found : {X Q : Type 0} (p : X → Bool) (xs : List X) → All (λ x. p x ≡ true → Q) xs
    → list_any p xs ≡ true → Q
holds_found p [] all found = absurd (true≢false (sym found))
holds_found {X} {Q} p (x ∷ xs) all found =
    elim (p x) as (λ b. p x ≡ b → (b || list_any p xs) ≡ true → Q) [
      | true ↦ λ passes found. all 0 x (omega arith) passes
      | false ↦ λ fails found.
          holds_found p xs (λ k d within. all (suc k) d (omega arith)) found
    ] refl found

-- one of two tests, where the second asks for another one
of_two : {Q : Type 0} (p l c : Bool) → (p ≡ true → Q) → (c ≡ true → Q) → (p || (l && c)) ≡ true → Q
of_two true l c one other found = one refl
of_two false true c one other found = other found
of_two false false c one other found = absurd (true≢false (sym found))

-- some period counts the record, by what is charged in the open one
pub counted_somewhere : (book : Book) (charged : Records) (bytes : List ℕ)
    → is_counted_in
    (book.past ++ period_by (last_close book.rulings) book.posted charged ∷ []) bytes
    ≡ (is_counted_in book.past bytes
    || (is_dated_after (last_close book.rulings) bytes && has charged bytes))
counted_somewhere book charged bytes =
    let counts : Period → Bool = λ period. has period.counted bytes in
    let open_one : Period = period_by (last_close book.rulings) book.posted charged in
    list_any-append counts book.past (open_one ∷ [])
    ∙ ap (λ b. is_counted_in book.past bytes || b)
    (or-false (counts open_one) ∙ has_those (is_dated_after (last_close book.rulings)) charged bytes)

module _ (naming : Naming) (book : Book) (sound : IsSound naming book) (bytes : List ℕ) where
  abbrev counts : Period → Bool
  counts period = has period.counted bytes

  abbrev last : Option ℤ
  last = last_close book.rulings

  -- of what is dated after the last close no closed period counts any
  none_settled : is_dated_after last bytes ≡ true → is_counted_in book.past bytes ≡ false
  none_settled late =
      false_from_ne_true (is_counted_in book.past bytes) (λ found.
      holds_found counts book.past
      (All-weaker (AreAllDatedThrough last) (λ period. counts period ≡ true → ⊥)
      (λ period dated there. true≢false (sym late ∙ dated.counted bytes there))
      book.past sound.settled) found)

  -- and what a closed period counts is held
  pub past_held : is_counted_in book.past bytes ≡ true → has book.held bytes ≡ true
  past_held found =
      holds_found counts book.past
      (All-weaker (AreHeld book.held) (λ period. counts period ≡ true → has book.held bytes ≡ true)
      (λ period held there. held.counted bytes there) book.past sound.past) found

  -- by what is charged in the open period
  module _ (charged : Records) where
    abbrev periods : List Period
    periods = book.past ++ period_by last book.posted charged ∷ []

    -- so what is dated after the last close is counted where it is charged
    pub current_is : is_dated_after last bytes ≡ true
        → is_counted_in periods bytes ≡ has charged bytes
    current_is late =
        counted_somewhere book charged bytes
        ∙ (λ i. none_settled late i || (late i && has charged bytes))

    -- what is neither held nor charged is not counted
    pub new_uncounted : has book.held bytes ≡ false → has charged bytes ≡ false
        → is_counted_in periods bytes ≡ false
    new_uncounted new out =
        false_from_ne_true (is_counted_in periods bytes) (λ found.
        of_two (is_counted_in book.past bytes) (is_dated_after last bytes) (has charged bytes)
        (λ past. true≢false (sym (past_held past) ∙ new))
        (λ is_charged. true≢false (sym is_charged ∙ out))
        (sym (counted_somewhere book charged bytes) ∙ found))

    -- what is counted is held
    pub counted_held : AreAmong charged book.held → is_counted_in periods bytes ≡ true
        → has book.held bytes ≡ true
    counted_held within found =
        of_two (is_counted_in book.past bytes) (is_dated_after last bytes) (has charged bytes)
        past_held (within bytes) (sym (counted_somewhere book charged bytes) ∙ found)

    -- so it is among what is counted where a period counts it
    pub has_counted : AreAmong charged book.held
        → has (those (is_counted_in periods) book.held) bytes ≡ is_counted_in periods bytes
    has_counted within =
        has_those (is_counted_in periods) book.held bytes
        ∙ elim (is_counted_in periods bytes) as (λ b. is_counted_in periods bytes ≡ b
        → (b && has book.held bytes) ≡ b) [
          | true ↦ λ found. counted_held within found
          | false ↦ λ none. refl
        ] refl

-- what is dated no later than the last close is counted where a closed period counts it
pub settled_is : (book : Book) (charged : Records) (bytes : List ℕ)
    → is_dated_after (last_close book.rulings) bytes ≡ false
    → is_counted_in
    (book.past ++ period_by (last_close book.rulings) book.posted charged ∷ []) bytes
    ≡ is_counted_in book.past bytes
settled_is book charged bytes early =
    counted_somewhere book charged bytes
    ∙ ap (λ l. is_counted_in book.past bytes || (l && has charged bytes)) early
    ∙ or-false (is_counted_in book.past bytes)

-- By whether a closed period counts the record, it is undisputed, dated after the day of a close, and
-- dated after the close before: the close ends one period and opens another, which together count
-- what the open one did.
one_of_two : (past undisputed after late : Bool) → (after ≡ true → late ≡ true)
    → ((past || (late && (undisputed && not after))) || (after && undisputed))
    ≡ (past || (late && undisputed))
one_of_two true u a l later = refl
one_of_two false u true false later = absurd (true≢false (sym (later refl)))
one_of_two false true true true later = refl
one_of_two false false true true later = refl
one_of_two false true false true later = refl
one_of_two false false false true later = refl
one_of_two false u false false later = refl

-- what is dated after a close is dated after the one before
after_both : (last : Option ℤ) (day : ℤ) (bytes : List ℕ)
    → MatchOption last (Unit {0}) (λ close. close <ℤ day) → int_lt day (day_of bytes) ≡ true
    → is_dated_after last bytes ≡ true
after_both None day bytes later after = refl
after_both (Some close) day bytes later after = grind (arith, ints)

-- a close
module _ (book : Book) (day : ℤ) (later : IsAfterLastClose book.rulings day) where
  abbrev new : Book
  new = close day book

  abbrev before : Option ℤ
  before = last_close book.rulings

  abbrev undisputed : List ℕ → Bool
  undisputed = is_undisputed book.rulings book.held

  abbrev ended : Period
  ended = period_by before book.posted (charged_through book.rulings day book.held)

  -- a record that is held is charged where a test holds
  held_where : (p : List ℕ → Bool) (bytes : List ℕ) → has book.held bytes ≡ true
      → has (those p book.held) bytes ≡ p bytes
  held_where p bytes there =
      has_those p book.held bytes ∙ ap (λ h. p bytes && h) there ∙ and-true (p bytes)

  close_counts : (bytes : List ℕ) → has book.held bytes ≡ true
      → is_counted new bytes ≡ is_counted book bytes
  close_counts bytes there =
      let counts : Period → Bool = λ period. has period.counted bytes in
      let closed : Bool = is_counted_in book.past bytes in
      let late : Bool = is_dated_after before bytes in
      let past : is_counted_in new.past bytes
      ≡ (closed || (late && (undisputed bytes && is_dated_through day bytes))) =
      list_any-append counts book.past (ended ∷ [])
      ∙ ap (λ b. closed || b) (or-false (counts ended)
      ∙ has_those (is_dated_after before) (charged_through book.rulings day book.held) bytes
      ∙ ap (λ b. late && b) (held_where (λ b. undisputed b && is_dated_through day b) bytes there)) in
      let after = ap (λ close. is_dated_after close bytes)
      (last_or-behind None book.rulings.closes day) in
      let now = held_where undisputed bytes there in
      counted_somewhere new (charged_of book) bytes
      ∙ (λ i. past i || (after i && now i))
      ∙ one_of_two closed (undisputed bytes) (int_lt day (day_of bytes)) late
      (after_both before day bytes later)
      ∙ ap (λ b. closed || (late && b)) (sym now)
      ∙ sym (counted_somewhere book (charged_of book) bytes)

  -- leaves the records that are counted
  pub close_leaves : counted_of new ≡ counted_of book
  close_leaves = those-agree (is_counted new) (is_counted book) book.held close_counts
