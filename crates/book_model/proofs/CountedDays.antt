-- Where closes rise and each period counts what is dated in it, a period counts what is counted at
-- all and dated in it.
use Rattle.std.proofs.Common.{◌≡◌, ℕ, zero, suc, ◌-◌, ◌≤◌, ◌<◌, List, [], ◌∷◌, length, refl, sym}
use Rattle.std.proofs.Common.{ap, ◌∙◌, subst, true, false, true≢false, Bool, ◌&&◌, ◌||◌, ◌⊎◌}
use Rattle.std.proofs.Common.{Option, Some, None, get_or, arith, inl, inr, ℤ, pos, ◌<ℤ◌, int_lt}
use Rattle.std.proofs.Common.{nat_lt, slice_get, if◌then◌else◌, int_cmp, Less, ltb-true, ltb-false}
use Rattle.std.proofs.Common.{ne_eqb, length-append}
use Rattle.std.specs.Cmp.{int_ranked}
use Rattle.std.proofs.lemmas.Bool.{and_from}
use Rattle.std.proofs.lemmas.Map.Keys.{Less-from_sorted}
use Rattle.book_model.proofs.Std.{both_ways, list_any, IsStrictlySortedBy, ints, list_any_at}
use Rattle.book_model.proofs.Std.{get_or_from_slice_get, slice_get-get_or, slice_get_within}
use Rattle.book_model.specs.Words.{day_of, Book, all_periods, charged_of, open_period}
use Rattle.book_model.specs.Words.{is_dated_after, is_dated_through, is_undisputed, is_after}
use Rattle.book_model.specs.Words.{is_between, is_through, counted_of, is_counted, is_dated_in}
use Rattle.book_model.specs.Words.{Period, Naming, through_of, Rulings, has, those, IsSound}
use Rattle.book_model.proofs.CountedLemmas.{has_counted}
use Rattle.book_model.proofs.RecordSets.{first_of, has_those, in_those, not_true, same_records}
use Rattle.book_model.proofs.RecordSets.{second_of}

module _ {X : Type 0} (p : X → Bool) where
  -- what is found stands somewhere
  place_found : (xs : List X) (d : X) → list_any p xs ≡ true
      → (k : ℕ) × (k < length xs) × (p (get_or xs k d) ≡ true)
  place_found [] d found = absurd (true≢false (sym found))
  place_found (x ∷ xs) d found =
      elim (p x) as (λ b. p x ≡ b → (b || list_any p xs) ≡ true
      → (k : ℕ) × (k < length (x ∷ xs)) × (p (get_or (x ∷ xs) k d) ≡ true)) [
        | true ↦ λ passes found. (0, omega arith, passes)
        | false ↦ λ fails found.
            let later = place_found xs d found in
            let within = later.1 in
            (suc later.0, omega arith, later.2)
      ] refl found

-- the day of the close after so many others, if there was one
abbrev pub close_at : List ℤ → ℕ → Option ℤ
close_at closes zero = None
close_at closes (suc k) = slice_get closes k

-- it is the one through which the period was closed of that number
pub through_at : (k : ℕ) (rulings : Rulings) → through_of k rulings ≡ close_at rulings.closes k
through_at zero rulings = refl
through_at (suc k) rulings =
    let some = ne_eqb (suc k) 0 (λ none. omega arith) in
    let place : suc k - 1 ≡ k = omega arith in
    λ i. if some i then None else slice_get rulings.closes (place i)

-- through one close and after the same or a later one is never
never_later : (early late : ℤ) (bytes : List ℕ) → (early ≡ late) ⊎ (early <ℤ late)
    → is_dated_through early bytes ≡ true → is_dated_after (Some late) bytes ≡ true → ⊥
never_later early late bytes order through after =
    let not_later = not_true (int_lt early (day_of bytes)) through in
    grind (arith, ints, order, not_later, after)

module _ (closes : List ℤ) (rising : IsStrictlySortedBy int_cmp closes) (bytes : List ℕ) where
  -- the record is dated in the period after k closes
  abbrev pub in_window : ℕ → Bool
  in_window k = is_between (close_at closes k) (close_at closes (suc k)) (day_of bytes)

  -- in no two periods
  windows_apart : (j m : ℕ) → j ≤ m → m < length closes → in_window j ≡ true
      → in_window (suc m) ≡ true → ⊥
  windows_apart j m order within early late =
      let one : ℤ = get_or closes j (pos 0) in
      let other : ℤ = get_or closes m (pos 0) in
      let at_one : slice_get closes j ≡ Some one = slice_get-get_or closes j (pos 0) (omega arith) in
      let at_other : slice_get closes m ≡ Some other = slice_get-get_or closes m (pos 0) within in
      let day : ℤ = day_of bytes in
      let through = subst (λ close. is_through close day ≡ true) at_one
      (second_of (is_after (close_at closes j) day) (is_through (slice_get closes j) day) early) in
      let after = subst (λ close. is_after close day ≡ true) at_other
      (first_of (is_after (slice_get closes m) day)
      (is_through (slice_get closes (suc m)) day) late) in
      let ordered : (one ≡ other) ⊎ (one <ℤ other) =
      elim (nat_lt j m) as (λ b. nat_lt j m ≡ b → (one ≡ other) ⊎ (one <ℤ other)) [
        | true ↦ λ is_less.
            let less = ltb-true j m is_less in
            inr (int_ranked one other Less
            (sym (Less-from_sorted int_cmp closes j m (pos 0) rising less within)))
        | false ↦ λ is_not.
            let not_less = ltb-false j m is_not in
            let same : j ≡ m = omega arith in
            inl (ap (λ k. get_or closes k (pos 0)) same)
      ] refl in
      never_later one other bytes ordered through after

  -- so of two periods in which it is dated one is the other
  one_window : (j k : ℕ) → j ≤ length closes → k ≤ length closes → in_window j ≡ true
      → in_window k ≡ true → j ≡ k
  one_window zero zero one other in_one in_other = refl
  one_window zero (suc k) one other in_one in_other =
      absurd (windows_apart zero k (omega arith) (omega arith) in_one in_other)
  one_window (suc j) zero one other in_one in_other =
      absurd (windows_apart zero j (omega arith) (omega arith) in_other in_one)
  one_window (suc j) (suc k) one other in_one in_other =
      elim (nat_lt j k) as (λ b. nat_lt j k ≡ b → suc j ≡ suc k) [
        | true ↦ λ is_less.
            let less = ltb-true j k is_less in
            absurd (windows_apart (suc j) k (omega arith) (omega arith) in_one in_other)
        | false ↦ λ is_not. elim (nat_lt k j) as (λ b. nat_lt k j ≡ b → suc j ≡ suc k) [
          | true ↦ λ is_less.
              let less = ltb-true k j is_less in
              absurd (windows_apart (suc k) j (omega arith) (omega arith) in_other in_one)
          | false ↦ λ is_not_too.
              let not_less = ltb-false j k is_not in
              let not_more = ltb-false k j is_not_too in
              omega arith
        ] refl
      ] refl

-- what a period of the book counts is dated in it
abbrev pub AreInWindows : Book → Type 0
AreInWindows book =
    (k : ℕ) (period : Period) (bytes : List ℕ) → slice_get (all_periods book) k ≡ Some period
    → has period.counted bytes ≡ true
    → is_between (close_at book.rulings.closes k) (close_at book.rulings.closes (suc k)) (day_of bytes)
    ≡ true

-- a record is among what is counted where a period counts it
pub has_counted_of : (naming : Naming) (book : Book) → IsSound naming book → (bytes : List ℕ)
    → has (counted_of book) bytes ≡ is_counted book bytes
has_counted_of naming book sound bytes =
    has_counted naming book sound bytes (charged_of book)
    (λ q on. in_those (is_undisputed book.rulings book.held) book.held q on)

module _ (naming : Naming) (book : Book) (sound : IsSound naming book)
    (rising : IsStrictlySortedBy int_cmp book.rulings.closes) (dated : AreInWindows book) where
  abbrev days : List ℤ
  days = book.rulings.closes

  abbrev every : List Period
  every = all_periods book

  -- a period counts what is dated in it and is counted at all
  counted_there : (bytes : List ℕ) (k : ℕ) (period : Period) → slice_get every k ≡ Some period
      → has period.counted bytes ≡ (in_window days rising bytes k && has (counted_of book) bytes)
  counted_there bytes k period there =
      let counts : Period → Bool = λ (period : Period). has period.counted bytes in
      let within = slice_get_within every k period there in
      let is = get_or_from_slice_get every k period (open_period book) there in
      let long = length-append book.past (open_period book ∷ []) in
      let closed = sound.closed in
      both_ways (counts period) (in_window days rising bytes k && has (counted_of book) bytes)
      (λ counted. and_from (in_window days rising bytes k) (has (counted_of book) bytes)
      (dated k period bytes there counted)
      (has_counted_of naming book sound bytes
      ∙ list_any_at counts every k (open_period book) within (ap counts is ∙ counted)))
      (λ all.
      let own = first_of (in_window days rising bytes k) (has (counted_of book) bytes) all in
      let found = place_found counts every (open_period book)
      (sym (has_counted_of naming book sound bytes)
      ∙ second_of (in_window days rising bytes k) (has (counted_of book) bytes) all) in
      let inside = found.1 in
      let its : Period = get_or every found.0 (open_period book) in
      let other = dated found.0 its bytes
      (slice_get-get_or every found.0 (open_period book) found.1) found.2 in
      let same = one_window days rising bytes found.0 k (omega arith) (omega arith) other own in
      ap counts (sym is ∙ ap (λ k. get_or every k (open_period book)) (sym same)) ∙ found.2)

  -- the same by its number, from 1
  pub counted_at : (k : ℕ) (period : Period) → slice_get every k ≡ Some period
      → period.counted ≡ those (is_dated_in book.rulings (suc k)) (counted_of book)
  counted_at k period there =
      let place : suc k - 1 ≡ k = omega arith in
      let last = ap (λ k. through_of k book.rulings) place ∙ through_at k book.rulings in
      let through = through_at (suc k) book.rulings in
      same_records period.counted (those (is_dated_in book.rulings (suc k)) (counted_of book))
      (λ bytes. counted_there bytes k period there
      ∙ (λ i. is_between (sym last i) (sym through i) (day_of bytes)
      && has (counted_of book) bytes)
      ∙ sym (has_those (is_dated_in book.rulings (suc k)) (counted_of book) bytes))
