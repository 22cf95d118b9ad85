-- The place of a period among all periods of a book.
use Rattle.std.proofs.Common.{◌≡◌, ℕ, ◌+◌, ◌-◌, List, map, length, refl, sym, ap, ◌∙◌, true, false}
use Rattle.std.proofs.Common.{true≢false, Bool, Option, Some, None, arith, ◌≢◌, slice_get, ◌==◌}
use Rattle.std.proofs.Common.{if◌then◌else◌, eqb-true, eq-eqb, option_map}
use Rattle.std.proofs.lemmas.Option.{slice_get_within}
use Rattle.book_model.specs.Words.{Book, open_number, open_period, all_periods, period_of, Period}
use Rattle.book_model.specs.Words.{Naming, IsSound}
use Rattle.book_model.proofs.ListLemmas.{slice_get-front, slice_get-behind}
use Rattle.std.proofs.lemmas.Option as options

-- numbers that are not equal by their test
eqb-not : (a b : ℕ) → (a == b) ≡ false → a ≢ b
eqb-not a b apart same = true≢false (sym (eq-eqb a b same) ∙ apart)

-- an element of a list of results
pub slice_get-map : {X Y : Type 0} (f : X → Y) (xs : List X) (k : ℕ) (x : X)
    → slice_get xs k ≡ Some x
    → slice_get (map f xs) k ≡ Some (f x)
slice_get-map f xs k x there = options.slice_get-map f xs k ∙ ap (option_map f) there

-- a period of a number is the one at its place, counted from 1
place_by : (book : Book) → length book.past ≡ length book.rulings.closes
    → (number : ℕ) (period : Period) (is_zero is_open : Bool) → (number == 0) ≡ is_zero
    → (number == open_number book) ≡ is_open
    → (if is_zero then None
    else if is_open then Some (open_period book)
    else slice_get book.past (number - 1)) ≡ Some period
    → (k : ℕ) × (number ≡ 1 + k) × (slice_get (all_periods book) k ≡ Some period)
place_by book closed number period true is_open zeroth last is = absurd (nothing period is)
  where
    nothing : (period : Period) → ◌≡◌ {A = Option Period} None (Some period) → ⊥
    nothing period is = cc
place_by book closed number period false true zeroth last is =
    let same : open_period book ≡ period = cc in
    let own = eqb-true number (open_number book) last in
    let place : number ≡ 1 + length book.past = omega arith in (
      length book.past,
      place,
      slice_get-behind book.past (open_period book) ∙ ap Some same,
    )
place_by book closed number period false false zeroth last is =
    let some = eqb-not number 0 zeroth in
    let place : number ≡ 1 + (number - 1) = omega arith in
    let within = slice_get_within book.past (number - 1) period is in (
      number - 1,
      place,
      slice_get-front book.past (open_period book) (number - 1) within ∙ is,
    )

-- the same for a period that the book has
pub at_place : (naming : Naming) (book : Book) → IsSound naming book
    → (number : ℕ) (period : Period) → period_of book number ≡ Some period
    → (k : ℕ) × (number ≡ 1 + k) × (slice_get (all_periods book) k ≡ Some period)
at_place naming book sound number period is =
    place_by book sound.closed number period (number == 0) (number == open_number book) refl refl
    is
