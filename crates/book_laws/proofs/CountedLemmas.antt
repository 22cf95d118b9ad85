-- Which records are counted: each at most once, as it is read from its mark and its lines, and in the
-- period of its day.
use Rattle.std.proofs.Common.{◌≡◌, ℕ, zero, suc, ◌+◌, ◌≤◌, List, [], ◌∷◌, ◌++◌, length, refl, sym}
use Rattle.std.proofs.Common.{ap, ◌∙◌, subst, true, false, true≢false, Bool, ◌&&◌, Option, Some}
use Rattle.std.proofs.Common.{get_or, arith, ℤ, pos, ◌-ℤ◌, nat_lt, slice_get, int_cmp, lt-ltb}
use Rattle.book_model.proofs.Std.{IsStrictlySortedBy, option_map_or, false_from_ne_true, ints}
use Rattle.book_model.proofs.Std.{slice_get-get_or, sum_by_push}
use Rattle.book_model.specs.Words.{rulings_before, AreDatedThrough, Book, Event, IsSound, Naming}
use Rattle.book_model.specs.Words.{Period, Records, Rulings, all_periods, book_after, charged_in}
use Rattle.book_model.specs.Words.{charged_of, closes, counted_of, day_of_close, has, held_before}
use Rattle.book_model.specs.Words.{is_dated_after, is_dated_in, is_dated_through, last_close}
use Rattle.book_model.specs.Words.{period_after, period_by, period_of, rulings, those}
use Rattle.book_model.proofs.Lemmas.{close_at, counted_at, sound_after, has_those, in_those}
use Rattle.book_model.proofs.Lemmas.{list_any-count_by}
use Rattle.book_model.proofs.CountedDays.{AreInWindows, has_counted_of}
use Rattle.book_model.proofs.MadeByCallsLemmas.{rulings_are}
use Rattle.book_model.proofs.SoundLemmas.{later_still}
use Rattle.table_model.specs.Readable.{IsChain}
use Rattle.table_model.specs.Words.{chained, close_after}
use Rattle.table_model.proofs.CountedReading.{last_after}
use Rattle.table_model.proofs.PeriodPlaces.{at_place}
use Rattle.book_laws.specs.DetailLaws.{BooksDetailOnce, CountedByDay, CountedIsRead, DetailedOnce}
use Rattle.book_laws.specs.NetCounts.{one_if, times_added, times_counted, times_reversed}
use Rattle.book_laws.proofs.DatedLemmas.{all_are, dated_right, period_at}
use Rattle.book_laws.proofs.LaterLemmas.{closes_rise}
use Rattle.book_laws.proofs.LinkedLemmas.{charged_dated, linked_after}
use Rattle.book_laws.proofs.NetLemmas.{charged_once}
use Rattle.book_laws.proofs.TariffStays.{rise_at}

-- a test counts at most one
at_most_one : (b : Bool) → one_if b ≤ 1
at_most_one true = omega arith
at_most_one false = omega arith

-- what is dated no later than a close is dated no later than the next
next_early : (closes : List ℤ) → IsStrictlySortedBy int_cmp closes → (k : ℕ)
    → suc k ≤ length closes → (bytes : List ℕ) → is_dated_after (close_after k closes) bytes ≡ false
    → is_dated_after (close_after (suc k) closes) bytes ≡ false
next_early closes rising zero within bytes early = absurd (true≢false early)
next_early closes rising (suc k) within bytes early =
    let one : ℤ = get_or closes k (pos 0) in
    let other : ℤ = get_or closes (suc k) (pos 0) in
    let at_one : slice_get closes k ≡ Some one =
    slice_get-get_or closes k (pos 0) (omega (arith, within)) in
    let at_other : slice_get closes (suc k) ≡ Some other =
    slice_get-get_or closes (suc k) (pos 0) (omega (arith, within)) in
    let before = rise_at closes k (suc k) one other rising (omega arith) at_one at_other in
    ap (λ close. is_dated_after close bytes) at_other
    ∙ later_still (Some one) other bytes before
    (ap (λ close. is_dated_after close bytes) (sym at_one) ∙ early)

module _ (bytes : List ℕ) where
  abbrev counts : Period → Bool
  counts period = has period.counted bytes

  -- one more period that does not count it, after others that do not
  none_more : (periods : List Period) (period : Period) → times_counted periods bytes ≡ 0
      → counts period ≡ false → times_counted (periods ++ period ∷ []) bytes ≡ 0
  none_more periods period none uncounted =
      let all = sum_by_push (λ (period : Period). one_if (counts period)) periods period in
      let own = ap one_if uncounted in
      omega arith

  -- one more period counts it where none did, or does not
  one_more : (periods : List Period) (last : Option ℤ) (before charged : Records)
      → (is_dated_after last bytes ≡ true → times_counted periods bytes ≡ 0)
      → times_counted periods bytes ≤ 1
      → times_counted (periods ++ period_by last before charged ∷ []) bytes ≤ 1
  one_more periods last before charged uncounted few =
      let period : Period = period_by last before charged in
      let all = sum_by_push (λ (period : Period). one_if (counts period)) periods period in
      let is = has_those (is_dated_after last) charged bytes in
      elim (is_dated_after last bytes)
      as (λ b. is_dated_after last bytes ≡ b → times_counted (periods ++ period ∷ []) bytes ≤ 1) [
        | true ↦ λ late.
            let none = uncounted late in
            let own = at_most_one (counts period) in
            omega arith
        | false ↦ λ early.
            let own = ap one_if (is ∙ ap (λ b. b && has charged bytes) early) in
            omega arith
      ] refl

  -- periods that are linked by what was charged
  module _ (closes : List ℤ) (charged : ℕ → Records)
      (dated : (k : ℕ) → k ≤ length closes → AreDatedThrough (close_after k closes) (charged k))
      (rising : IsStrictlySortedBy int_cmp closes) where
    -- do not count it where it is dated after their last close,
    none_late : (k : ℕ) → k ≤ length closes → is_dated_after (close_after k closes) bytes ≡ true
        → times_counted (chained k closes charged) bytes ≡ 0
    none_late zero within late = refl
    none_late (suc k) within late =
        let before : k ≤ length closes = omega (arith, within) in
        let periods : List Period = chained k closes charged in
        let last : Option ℤ = close_after k closes in
        let now : Records = charged (suc k) in
        let stood : times_counted periods bytes ≡ 0 =
        elim (is_dated_after last bytes)
        as (λ b. is_dated_after last bytes ≡ b → times_counted periods bytes ≡ 0) [
          | true ↦ λ here. none_late k before here
          | false ↦ λ early.
              absurd (true≢false (sym late ∙ next_early closes rising k within bytes early))
        ] refl in
        none_more periods (period_by last (charged k) now) stood
        (false_from_ne_true (counts (period_by last (charged k) now)) (λ there.
        true≢false (sym late
        ∙ dated (suc k) within bytes (in_those (is_dated_after last) now bytes there))))

    -- and count it at most once
    few : (k : ℕ) → k ≤ length closes → times_counted (chained k closes charged) bytes ≤ 1
    few zero within = omega arith
    few (suc k) within =
        let before : k ≤ length closes = omega (arith, within) in
        one_more (chained k closes charged) (close_after k closes) (charged k) (charged (suc k))
        (none_late k before) (few k before)

  -- so a linked book whose closes are in order counts it at most once
  counted_once : (book : Book) → IsChain book → IsStrictlySortedBy int_cmp book.rulings.closes
      → times_counted (all_periods book) bytes ≤ 1
  counted_once book linked rising =
      let days : List ℤ = book.rulings.closes in
      one_more book.past (last_close book.rulings) book.posted (charged_of book)
      (λ late. ap (λ (periods : List Period). times_counted periods bytes) linked.past
      ∙ none_late days linked.charged linked.dated rising (length days) (omega arith)
      (ap (λ close. is_dated_after close bytes) (sym (last_after days)) ∙ late))
      (subst (λ (periods : List Period). times_counted periods bytes ≤ 1) (sym linked.past)
      (few days linked.charged linked.dated rising (length days) (omega arith)))

-- the law, of books that can be read back
pub books_detail_once : BooksDetailOnce
books_detail_once naming book bytes whole = counted_once bytes book whole.past whole.in_order

-- and of histories
pub detailed_once : DetailedOnce
detailed_once naming history bytes answered =
    counted_once bytes (book_after history) (linked_after history)
    (closes_rise naming history answered)

-- at most one is one, if there is one
one_less : (n : ℕ) → n ≤ 1 → one_if (nat_lt 0 n) ≡ n
one_less zero few = refl
one_less (suc n) few =
    let some = ap one_if (lt-ltb 0 (suc n) (omega arith)) in
    omega arith

-- a difference that is told from its sum
told : (given taken rest : ℕ) → pos given -ℤ pos taken ≡ pos rest → given ≡ rest + taken
told given taken rest is = omega (arith, ints)

-- the law
pub counted_is_read : CountedIsRead
counted_is_read naming history bytes answered =
    let book : Book = book_after history in
    let periods : List Period = all_periods book in
    let counts : Period → Bool = λ period. has period.counted bytes in
    let own =
    ap one_if (has_counted_of naming book (sound_after naming history answered) bytes
    ∙ list_any-count_by counts periods)
    ∙ one_less (times_counted periods bytes) (detailed_once naming history bytes answered) in
    let net = told (times_counted periods bytes + times_added periods bytes)
    (times_reversed periods bytes) (one_if (has (charged_of book) bytes))
    (charged_once history bytes) in
    omega arith

-- the day of a close, by the rulings of the book
close_is : (k : ℕ) (history : List Event)
    → close_at (book_after history).rulings.closes k ≡ day_of_close k history
close_is zero history = refl
close_is (suc k) history =
    ap (λ (ruled : Rulings). slice_get ruled.closes k) (rulings_are history)

-- what a period counts is dated in it
in_windows : (history : List Event) → AreInWindows (book_after history)
in_windows history k period bytes there counted =
    let last : Option ℤ = day_of_close k history in
    let through : Option ℤ = day_of_close (suc k) history in
    let is = period_at (suc (length (closes history))) k history period
    (ap (λ periods. slice_get periods k) (sym (all_are history)) ∙ there) in
    let made : has (period_after k history).counted bytes ≡ true =
    ap (λ (period : Period). has period.counted bytes) is ∙ counted in
    let charged = in_those (is_dated_after last) (charged_in (suc k) history) bytes made in
    let late = (dated_right history k period there).counted bytes counted in
    let early = charged_dated (rulings_before k (rulings history)) through
    (held_before (suc k) history) bytes charged in
    (λ i. is_dated_after (close_is k history i) bytes
    && option_map_or (λ day. is_dated_through day bytes) (close_is (suc k) history i) true)
    ∙ (λ i. late i && early i)

-- so it is what is dated in it and counted at all
pub counted_in_days : (naming : Naming) (book : Book) → IsSound naming book
    → IsStrictlySortedBy int_cmp book.rulings.closes → AreInWindows book
    → (number : ℕ) (period : Period) → period_of book number ≡ Some period
    → period.counted ≡ those (is_dated_in book.rulings number) (counted_of book)
counted_in_days naming book sound rising dated number period found =
    let place = at_place naming book sound number period found in
    let at = place.1 in
    let own : suc place.0 ≡ number = omega arith in
    counted_at naming book sound rising dated place.0 period place.2
    ∙ ap (λ n. those (is_dated_in book.rulings n) (counted_of book)) own

-- the law
pub counted_by_day : CountedByDay
counted_by_day naming history number period answered found =
    counted_in_days naming (book_after history) (sound_after naming history answered)
    (closes_rise naming history answered) (in_windows history) number period found
