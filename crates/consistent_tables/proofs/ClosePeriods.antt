-- The period of a day, among closes in order: it comes after as many closes as are before the day.
-- A record is dated in the period of its day, and in no other.
use Rattle.std.proofs.Common.{◌≡◌, ◌∙◌, ◌+◌, ◌<◌, ◌≤◌, List, [], ◌∷◌, ℕ, ℤ, zero, suc, arith, false}
use Rattle.std.proofs.Common.{length, refl, sym, ap, true, ◌-◌, not, ◌&&◌, if◌then◌else◌, int_lt}
use Rattle.std.proofs.Common.{nat_lt, slice_get, ◌==◌, pos, int_cmp}
use Rattle.std.specs.List.Sorted.{IsStrictlySortedBy}
use Rattle.std.specs.Option.{option_map_or}
use Rattle.std.proofs.lemmas.Bool.Decides.{nat_tests}
use Rattle.std.proofs.lemmas.Int.{ints}
use Rattle.std.proofs.lemmas.Bool.{le-ltb, ltb-false, ltb-true}
use Rattle.std.proofs.lemmas.Option.{slice_get-get_or, slice_get_past}
use Rattle.book_model.specs.Words.{Rulings, day_of, is_dated_after, is_dated_in, is_dated_through}
use Rattle.book_model.specs.RulingAnswers.{through_of}
use Rattle.table_model.specs.BookIn.{close_after}
use Rattle.table_model.proofs.CloseOrder.{earlier}
use Rattle.table_model.proofs.CountedReading.{through_is}
use Rattle.consistent_tables.specs.DueRows.{period_from}

-- the period of a day is not before the first,
pub least_period : (first : ℕ) (closes : List ℤ) (day : ℤ) → first ≤ period_from first closes day
least_period first [] day = omega arith
least_period first (through ∷ later) day =
    let rest = least_period (first + 1) later day in
    elim (int_lt through day) as
    (λ b. first ≤ (if b then period_from (first + 1) later day else first)) [
      | true ↦ omega (arith, rest)
      | false ↦ omega arith
    ]

-- nor after the last
pub most_period : (first : ℕ) (closes : List ℤ) (day : ℤ)
    → period_from first closes day ≤ first + length closes
most_period first [] day = omega arith
most_period first (through ∷ later) day =
    let rest = most_period (first + 1) later day in
    elim (int_lt through day) as
    (λ b. (if b then period_from (first + 1) later day else first)
    ≤ first + length (through ∷ later)) [
      | true ↦ omega (arith, rest)
      | false ↦ omega arith
    ]

module _ (bytes : List ℕ) where
  -- a record that is not dated after a close is not dated after a later one
  none_after : (close : ℤ) (closes : List ℤ) (k : ℕ) → IsStrictlySortedBy int_cmp (close ∷ closes)
      → int_lt close (day_of bytes) ≡ false → k < length closes
      → is_dated_after (slice_get closes k) bytes ≡ false
  unfolding IsStrictlySortedBy
  none_after close [] k rising early within = absurd (omega (arith, within))
  none_after close (next ∷ closes) zero rising early within =
      let less = earlier close next rising.0.0 in
      grind (arith, ints)
  none_after close (next ∷ closes) (suc k) rising early within =
      let less = earlier close next rising.0.0 in
      let too : int_lt next (day_of bytes) ≡ false = grind (arith, ints) in
      none_after next closes k rising.1 too (omega (arith, within))

  -- so it is dated after those closes that come before its period
  after_from : (first k : ℕ) (closes : List ℤ) → IsStrictlySortedBy int_cmp closes
      → k < length closes → is_dated_after (slice_get closes k) bytes
      ≡ nat_lt (first + k) (period_from first closes (day_of bytes))
  unfolding IsStrictlySortedBy
  after_from first k [] rising within = absurd (omega (arith, within))
  after_from first zero (close ∷ closes) rising within =
      let day : ℤ = day_of bytes in
      let later = least_period (first + 1) closes day in
      elim (int_lt close day) as (λ b. b
      ≡ nat_lt (first + zero) (if b then period_from (first + 1) closes day else first)) [
        | true ↦ grind (arith, nat_tests, later)
        | false ↦ grind (arith, nat_tests)
      ]
  after_from first (suc k) (close ∷ closes) rising within =
      let day : ℤ = day_of bytes in
      let next : first + 1 + k ≡ first + suc k = omega arith in
      elim (int_lt close day) as (λ b. int_lt close day ≡ b
      → is_dated_after (slice_get closes k) bytes
      ≡ nat_lt (first + suc k) (if b then period_from (first + 1) closes day else first)) [
        | true ↦ λ before.
            after_from (first + 1) k closes rising.1 (omega (arith, within))
            ∙ ap (λ n. nat_lt n (period_from (first + 1) closes day)) next
        | false ↦ λ early.
            none_after close closes k rising early (omega (arith, within))
            ∙ sym (not_less (first + suc k) first (omega arith))
      ] refl
    where
      not_less : (a b : ℕ) → b ≤ a → nat_lt a b ≡ false
      not_less a b less = grind (arith, nat_tests, less)

  -- of all closes, in the order of their periods
  pub after_close : (closes : List ℤ) (k : ℕ) → IsStrictlySortedBy int_cmp closes
      → k ≤ length closes
      → is_dated_after (close_after k closes) bytes
      ≡ nat_lt k (period_from 1 closes (day_of bytes))
  after_close closes zero rising within =
      let some = least_period 1 closes (day_of bytes) in
      let less : nat_lt 0 (period_from 1 closes (day_of bytes)) ≡ true =
      grind (arith, nat_tests, some) in
      sym less
  after_close closes (suc k) rising within =
      let next : 1 + k ≡ suc k = omega arith in
      after_from 1 k closes rising (omega (arith, within))
      ∙ ap (λ n. nat_lt n (period_from 1 closes (day_of bytes))) next

-- of two numbers the second is the next one
next_is : (k own : ℕ) → (nat_lt k own && not (nat_lt (suc k) own)) ≡ (suc k == own)
next_is k own =
    elim (nat_lt k own) as (λ a. nat_lt k own ≡ a
    → (a && not (nat_lt (suc k) own)) ≡ (suc k == own)) [
      | true ↦ λ less. elim (nat_lt (suc k) own) as (λ b. nat_lt (suc k) own ≡ b
          → not b ≡ (suc k == own)) [
            | true ↦ λ more. grind (arith, nat_tests)
            | false ↦ λ not_more. grind (arith, nat_tests)
          ] refl
      | false ↦ λ late. grind (arith, nat_tests)
    ] refl

module _ (closes : List ℤ) (rising : IsStrictlySortedBy int_cmp closes) (bytes : List ℕ) where
  -- the period of its day
  abbrev own : ℕ
  own = period_from 1 closes (day_of bytes)

  -- a record is dated through a close, if there is one, where its period is not a later one
  dated_through : (k : ℕ) → k ≤ length closes
      → option_map_or (λ day. is_dated_through day bytes) (slice_get closes k) true
      ≡ not (nat_lt (suc k) own)
  dated_through k within =
      elim (nat_lt k (length closes)) as (λ b. nat_lt k (length closes) ≡ b
      → option_map_or (λ day. is_dated_through day bytes) (slice_get closes k) true
      ≡ not (nat_lt (suc k) own)) [
        | true ↦ λ closed.
            let inside = ltb-true k (length closes) closed in
            let there = slice_get-get_or closes k (pos 0) inside in
            ap (λ close. option_map_or (λ day. is_dated_through day bytes) close true) there
            ∙ ap not (ap (λ close. is_dated_after close bytes) (sym there)
            ∙ after_close bytes closes (suc k) rising (omega (arith, inside)))
        | false ↦ λ not_closed.
            let past = ltb-false k (length closes) not_closed in
            let most = most_period 1 closes (day_of bytes) in
            ap (λ close. option_map_or (λ day. is_dated_through day bytes) close true)
            (slice_get_past closes k past)
            ∙ ap not (sym (le-ltb (suc k) own (omega (arith, past, most))))
      ] refl

-- a record is dated in a period where that is the one of its day
pub dated_is : (rulings : Rulings) (bytes : List ℕ) (k : ℕ)
    → IsStrictlySortedBy int_cmp rulings.closes → k ≤ length rulings.closes
    → is_dated_in rulings (suc k) bytes ≡ (suc k == period_from 1 rulings.closes (day_of bytes))
dated_is rulings bytes k rising within =
    let place : suc k - 1 ≡ k = omega arith in
    let last = ap (λ k. through_of k rulings) place ∙ through_is k rulings in
    (λ i. is_dated_after (last i) bytes
    && option_map_or (λ day. is_dated_through day bytes) (through_is (suc k) rulings i) true)
    ∙ (λ i. after_close bytes rulings.closes k rising within i
    && dated_through rulings.closes rising bytes k within i)
    ∙ next_is k (period_from 1 rulings.closes (day_of bytes))
