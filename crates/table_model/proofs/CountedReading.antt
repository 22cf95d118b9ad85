-- Which records a period counts is read from their marks and lines.
use Rattle.std.proofs.Common.{◌≡◌, ℕ, zero, suc, ◌+◌, ◌-◌, ◌<◌, ◌≤◌, List, [], ◌∷◌, map, length}
use Rattle.std.proofs.Common.{refl, sym, ap, ◌∙◌, true, false, true≢false, Bool, cond, not, ◌&&◌}
use Rattle.std.proofs.Common.{Option, Some, None, arith, ℤ, pos, ◌==◌, nat_le, if◌then◌else◌}
use Rattle.std.proofs.Common.{int_lt, slice_get, int_cmp}
use Rattle.std.specs.FinMap.{find}
use Rattle.std.specs.List.Sorted.{IsStrictlySortedBy}
use Rattle.book_model.proofs.Std.{get, get-from_entries, last_or, option_map_or, option_or}
use Rattle.book_model.proofs.Std.{false_from_ne_true, nat_tests, nat_list_cmp_total, ints}
use Rattle.book_model.proofs.Std.{slice_get_within, slice_get-get_or}
use Rattle.book_model.specs.Words.{through_of, AreHeld, Book, IsSound, Naming, Period, Records}
use Rattle.book_model.specs.Words.{all_periods, by_bytes, charged_of, day_of, has, is_dated_after}
use Rattle.book_model.specs.Words.{Rulings, name_of, open_by, open_period, period_by, without}
use Rattle.book_model.specs.Words.{is_day_of}
use Rattle.book_model.proofs.ListLemmas.{last_or-is}
use Rattle.book_model.proofs.Lemmas.{slice_get-behind, else_find, find-both, has_those}
use Rattle.table_model.specs.Words.{numbered, LineTable, line_entries, signed_names, tables_of}
use Rattle.table_model.specs.Words.{close_after, charged_before_lines, first_line, IsReadable}
use Rattle.table_model.proofs.HeldNames.{own_value}
use Rattle.table_model.proofs.HeldPeriods.{all_held, one_of}
use Rattle.table_model.proofs.NumberedLemmas.{by_period_total}
use Rattle.table_model.proofs.PeriodPlaces.{slice_get-map}
use Rattle.table_model.proofs.PeriodReading.{find-at}
use Rattle.table_model.proofs.BookLemmas.{its_place}
use Rattle.table_model.proofs.CloseOrder.{earlier}

module _ (naming : Naming) (book : Book) (sound : IsSound naming book) (bytes : List ℕ)
    (there : has book.held bytes ≡ true) where
  -- its line in a period
  pub find_line : (period : Period) → AreHeld book.held period
      → find by_bytes (name_of naming bytes) (line_entries naming period)
      ≡ else_find (cond (has period.added bytes) (Some true) None)
      (cond (has period.taken bytes) (Some false) None)
  find_line period held =
      find-both by_bytes (name_of naming bytes) (signed_names naming true period.added)
      (signed_names naming false period.taken)
      ∙ (λ i. else_find (own_value naming book sound bytes there true period.added held.added i)
      (own_value naming book sound bytes there false period.taken held.taken i))

module _ (last : Option ℤ) (before now : Records) (bytes : List ℕ) where
  -- whether a period counts a record, by what was charged before it and at its end
  pub in_counted : has (period_by last before now).counted bytes
      ≡ (is_dated_after last bytes && has now bytes)
  in_counted = has_those (is_dated_after last) now bytes

  -- whether it adds one that is dated no later than the close before
  pub in_added : is_dated_after last bytes ≡ false → has (period_by last before now).added bytes
      ≡ (not (has before bytes) && has now bytes)
  in_added early =
      has_those (λ b. not (is_dated_after last b)) (without now before) bytes
      ∙ (λ i. not (early i) && has_those (λ b. not (has before b)) now bytes i)

  -- and whether it reverses it
  pub in_taken : has (period_by last before now).taken bytes ≡ (not (has now bytes) && has before bytes)
  in_taken = has_those (λ b. not (has now b)) before bytes

-- a record was charged before a period and is at its end, or not; by its line, or by those of later
-- periods where it has none, it is told whether it was
told_back : (was is_now charged : Bool) (later : Option Bool)
    → charged_before_lines later charged ≡ is_now
    → charged_before_lines
    (option_or (else_find (cond (not was && is_now) (Some true) None)
    (cond (not is_now && was) (Some false) None)) later) charged ≡ was
told_back true true charged later is = is
told_back true false charged later is = refl
told_back false true charged later is = refl
told_back false false charged later is = is

-- what is dated no later than a close is dated no later than the next
stays_early : (days : List ℤ) (k : ℕ) (bytes : List ℕ) → IsStrictlySortedBy int_cmp days
    → suc k < length days → is_dated_after (slice_get days k) bytes ≡ false
    → is_dated_after (slice_get days (suc k)) bytes ≡ false
unfolding IsStrictlySortedBy
stays_early [] k bytes rising within early = absurd (omega arith)
stays_early (day ∷ []) k bytes rising within early = absurd (omega arith)
stays_early (day ∷ next ∷ days) zero bytes rising within early =
    let later = earlier day next rising.0.0 in
    grind (arith, ints)
stays_early (day ∷ next ∷ days) (suc k) bytes rising within early =
    stays_early (next ∷ days) k bytes rising.1 (omega arith) early

-- the last close comes after all but one
pub last_after : (days : List ℤ) → last_or None days ≡ close_after (length days) days
last_after [] = refl
last_after (day ∷ days) = last_or-is day days

-- the day through which a period was closed is that of the close after as many
pub through_is : (k : ℕ) (rulings : Rulings) → through_of k rulings ≡ close_after k rulings.closes
through_is zero rulings = refl
through_is (suc k) rulings =
    let some : (suc k == 0) ≡ false = grind (arith, nat_tests) in
    let place : suc k - 1 ≡ k = omega arith in
    λ i. if some i then None else slice_get rulings.closes (place i)

-- a period counts a record, by its day, its mark and its lines
abbrev pub is_record_counted : Naming → Book → ℕ → List ℕ → Bool
is_record_counted naming book number bytes =
    is_day_of number book.rulings (day_of bytes)
    && charged_before_lines
    (first_line (tables_of naming book).lines (name_of naming bytes) (suc number)
    (open_by book.rulings - number))
    (has (charged_of book) bytes)

module _ (naming : Naming) (book : Book) (whole : IsReadable naming book) where
  abbrev pub days : List ℤ
  days = book.rulings.closes

  abbrev pub lines : LineTable
  lines = (tables_of naming book).lines

  -- what was charged after this many closes, and after the last is charged now
  abbrev pub sets : ℕ → Records
  sets k = if nat_le k (length days) then whole.past.charged k else charged_of book

  pub sets_past : (k : ℕ) → k ≤ length days → sets k ≡ whole.past.charged k
  sets_past k within =
      let early : nat_le k (length days) ≡ true = grind (arith, nat_tests) in
      ap (λ b. if b then whole.past.charged k else charged_of book) early

  sets_now : (k : ℕ) → length days < k → sets k ≡ charged_of book
  sets_now k past =
      let late : nat_le k (length days) ≡ false = grind (arith, nat_tests) in
      ap (λ b. if b then whole.past.charged k else charged_of book) late

  -- the period after k closes
  abbrev pub period_after : ℕ → Period
  period_after k = period_by (close_after k days) (sets k) (sets (suc k))

  -- is one of the book,
  pub its_period : (k : ℕ) → k ≤ length days
      → slice_get (all_periods book) k ≡ Some (period_after k)
  its_period k within =
      elim (nat_le (suc k) (length days)) as (λ b. nat_le (suc k) (length days) ≡ b
      → slice_get (all_periods book) k ≡ Some (period_after k)) [
        | true ↦ λ closed.
            let inside : k < length days = grind (arith, nat_tests) in
            its_place naming book whole k inside
            ∙ (λ i. Some (period_by (close_after k days) (sym (sets_past k (omega arith)) i)
            (sym (sets_past (suc k) (omega arith)) i)))
        | false ↦ λ not_closed.
            let all : length days ≤ k = grind (arith, nat_tests) in
            let count = whole.sound.closed in
            let place : k ≡ length book.past = omega arith in
            let last : length days ≡ k = omega arith in
            ap (slice_get (all_periods book)) place
            ∙ slice_get-behind book.past (open_period book)
            ∙ (λ i. Some (period_by (last_after days i) (whole.past.posted i) (charged_of book)))
            ∙ (λ i. Some (period_by (close_after (last i) days) (whole.past.charged (last i))
            (charged_of book)))
            ∙ (λ i. Some (period_by (close_after k days) (sym (sets_past k (omega arith)) i)
            (sym (sets_now (suc k) (omega arith)) i)))
      ] refl

  -- and its records are held
  pub its_held : (k : ℕ) → k ≤ length days → AreHeld book.held (period_after k)
  its_held k within =
      one_of (AreHeld book.held) (all_periods book) k (period_after k)
      (all_held naming book whole.sound) (its_period k within)

  module _ (bytes : List ℕ) (there : has book.held bytes ≡ true) where
    abbrev name : List ℕ
    name = name_of naming bytes

    -- the line of a record in a period, where it is dated no later than the close before
    pub line_there : (k : ℕ) → k ≤ length days → is_dated_after (close_after k days) bytes ≡ false
        → get lines (suc k, name)
        ≡ else_find (cond (not (has (sets k) bytes) && has (sets (suc k)) bytes) (Some true) None)
        (cond (not (has (sets (suc k)) bytes) && has (sets k) bytes) (Some false) None)
    line_there k within early =
        let own : Period → List (List ℕ × Bool) = line_entries naming in
        let next : suc k ≡ 1 + k = omega arith in
        get-from_entries (by_period_total by_bytes nat_list_cmp_total)
        (numbered 1 (map own (all_periods book))) (suc k, name)
        ∙ find-at by_bytes (suc k, name) 1 k (map own (all_periods book)) (own (period_after k))
        (slice_get-map own (all_periods book) k (period_after k) (its_period k within)) next
        ∙ find_line naming book whole.sound bytes there (period_after k) (its_held k within)
        ∙ (λ i. else_find
        (cond (in_added (close_after k days) (sets k) (sets (suc k)) bytes early i) (Some true)
        None)
        (cond (in_taken (close_after k days) (sets k) (sets (suc k)) bytes i) (Some false) None))

    -- it is dated no later than the next close either
    pub next_early : (k : ℕ) → suc k ≤ length days → is_dated_after (close_after k days) bytes ≡ false
        → is_dated_after (close_after (suc k) days) bytes ≡ false
    next_early zero within early = absurd (true≢false early)
    next_early (suc k) within early =
        stays_early days k bytes whole.in_order (omega arith) early

    -- so whether it was charged after some closes is told by the lines of the periods after them
    pub charged_back : (later k : ℕ) → k + later ≡ suc (length days)
        → (k ≤ length days → is_dated_after (close_after k days) bytes ≡ false)
        → charged_before_lines (first_line lines name (suc k) later) (has (charged_of book) bytes)
        ≡ has (sets k) bytes
    charged_back zero k place early =
        ap (λ records. has records bytes) (sym (sets_now k (omega arith)))
    charged_back (suc later) k place early =
        let here : k ≤ length days = omega arith in
        let others : Option Bool = first_line lines name (suc (suc k)) later in
        let charged : Bool = has (charged_of book) bytes in
        let rest = charged_back later (suc k) (omega arith)
        (λ within. next_early k within (early here)) in
        ap (λ line. charged_before_lines (option_or line others) charged)
        (line_there k here (early here))
        ∙ told_back (has (sets k) bytes) (has (sets (suc k)) bytes) charged others rest

    -- It was charged at the end of a period, and is dated no later than the close that ended it, by
    -- whether it was charged at the end.
    by_close : (k : ℕ) (through : Option ℤ) → k ≤ length days → close_after (suc k) days ≡ through
        → (option_map_or (λ through. not (int_lt through (day_of bytes))) through true
        && charged_before_lines
        (first_line lines name (suc (suc k)) (open_by book.rulings - suc k))
        (has (charged_of book) bytes))
        ≡ has (sets (suc k)) bytes
    by_close k None within none =
        charged_back (open_by book.rulings - suc k) (suc k) (omega arith) (λ inside.
        absurd (nothing (sym none
        ∙ slice_get-get_or days k (pos 0) (omega arith))))
      where
        nothing : {day : ℤ} → ◌≡◌ {A = Option ℤ} None (Some day) → ⊥
        nothing is = cc
    by_close k (Some day) within some =
        let inside : k < length days = slice_get_within days k day some in
        let charged : Bool =
        charged_before_lines (first_line lines name (suc (suc k)) (open_by book.rulings - suc k))
        (has (charged_of book) bytes) in
        elim (int_lt day (day_of bytes)) as (λ b. int_lt day (day_of bytes) ≡ b
        → (not b && charged) ≡ has (sets (suc k)) bytes) [
          | true ↦ λ late.
              sym (ap (λ records. has records bytes) (sets_past (suc k) inside)
              ∙ false_from_ne_true (has (whole.past.charged (suc k)) bytes) (λ was.
              true≢false (sym late
              ∙ ap (λ close. is_dated_after close bytes) (sym some)
              ∙ whole.past.dated (suc k) inside bytes was)))
          | false ↦ λ early.
              charged_back (open_by book.rulings - suc k) (suc k) (omega arith) (λ inside.
              ap (λ close. is_dated_after close bytes) some ∙ early)
        ] refl

    -- so the test says whether the period counts it
    pub counted_back : (k : ℕ) → k ≤ length days
        → is_record_counted naming book (suc k) bytes ≡ has (period_after k).counted bytes
    counted_back k within =
        let place : suc k - 1 ≡ k = omega arith in
        let after : Bool = is_dated_after (close_after k days) bytes in
        let through : Bool =
        option_map_or (λ through. not (int_lt through (day_of bytes))) (close_after (suc k) days)
        true in
        let charged : Bool =
        charged_before_lines (first_line lines name (suc (suc k)) (open_by book.rulings - suc k))
        (has (charged_of book) bytes) in
        let last = ap (λ k. through_of k book.rulings) place ∙ through_is k book.rulings in
        (λ i. (option_map_or (λ close. int_lt close (day_of bytes)) (last i) true
        && option_map_or (λ close. not (int_lt close (day_of bytes)))
        (through_is (suc k) book.rulings i) true) && charged)
        ∙ and_assoc after through charged
        ∙ ap (λ b. after && b) (by_close k (close_after (suc k) days) within refl)
        ∙ sym (in_counted (close_after k days) (sets k) (sets (suc k)) bytes)
      where
        and_assoc : (a b c : Bool) → ((a && b) && c) ≡ (a && (b && c))
        and_assoc true b c = refl
        and_assoc false b c = refl
