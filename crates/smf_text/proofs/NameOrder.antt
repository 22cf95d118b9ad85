-- Names are in the order of the numbers that their letters are.
use Rattle.std.proofs.Common.{◌≡◌, ℕ, zero, suc, ◌+◌, ◌-◌, ◌*◌, ◌^◌, ◌<◌, ◌≤◌, List, [], ◌∷◌, ◌++◌}
use Rattle.std.proofs.Common.{length, replicate, take, true, refl, sym, ap, ap₂, ◌∙◌, arith, nat_cmp}
use Rattle.std.proofs.Common.{Bool, ◌&&◌, nat_le}
use Rattle.std.proofs.lemmas.List.{length-append, length-replicate}
use Rattle.std.specs.declared.cmp.Ordering.{Ordering}
use Rattle.std.specs.declared.cmp.Ordering.TheVariants.{Less, Equal, Greater}
use Rattle.std.specs.Ordering.{MatchOrdering, ordering_then}
use Rattle.std.specs.List.{list_all}
use Rattle.std.specs.Cmp.{nat_cmp_is, ranks}
use Rattle.std.specs.Cmp.Lexicographic.{slice_cmp}
use Rattle.std.specs.Prelude.{slice_index}
use Rattle.std.specs.Int.{byte_worth, from_be_bytes, sum_through, w128}
use Rattle.std.proofs.lemmas.Bool.{and_parts}
use Rattle.std.proofs.lemmas.Bool.Decides.{nat_tests}
use Rattle.std.proofs.lemmas.Nat.{mul-add-lt, row_fits}
use Rattle.smf_text.specs.Names.{IsName, IsPadded, digits_value, is_name_character, longest_name}
use Rattle.smf_text.specs.Names.{padded}

-- bytes of a text, each of them above zero, and no more of them than this
abbrev AreLetters : ℕ → List ℕ → Type 0
AreLetters n [] = Unit {0}
AreLetters zero (letter ∷ letters) = ⊥
AreLetters (suc n) (letter ∷ letters) = (0 < letter) × (letter < 256) × AreLetters n letters

letter_is_small : (c : ℕ) → is_name_character c ≡ true → (0 < c) × (c < 256)
letter_is_small c is = (grind (arith, nat_tests), grind (arith, nat_tests))

name_has_letters : (n : ℕ) (text : List ℕ) → length text ≤ n
    → list_all is_name_character text ≡ true → AreLetters n text
name_has_letters n [] short all = tt
name_has_letters zero (letter ∷ letters) short all = absurd (omega (arith, short))
name_has_letters (suc n) (letter ∷ letters) short all =
    let parts = and_parts _ _ all in
    let small = letter_is_small letter parts.0 in
    (small.0, small.1, name_has_letters n letters (omega (arith, short)) parts.1)

power_some : (n : ℕ) → 0 < 256 ^ n
power_some zero = omega arith
power_some (suc n) = omega (arith, power_some n)

-- the number of so many letters is below the next power
below : (n : ℕ) (text : List ℕ) → AreLetters n text → digits_value n text < 256 ^ n
below zero [] are = omega arith
below zero (letter ∷ letters) are = absurd are
below (suc n) [] are = power_some (suc n)
below (suc n) (letter ∷ letters) are =
    omega (arith, mul-add-lt letter (256 ^ n) (digits_value n letters) 256 are.1 (below n letters are.2))

-- one number more in front of both
in_front : (r : Ordering) (w a b : ℕ) → MatchOrdering r (a < b) (a ≡ b) (b < a)
    → MatchOrdering r (w + a < w + b) (w + a ≡ w + b) (w + b < w + a)
in_front Less w a b is = omega (arith, is)
in_front Equal w a b is = ap (λ n. w + n) is
in_front Greater w a b is = omega (arith, is)

-- a higher first letter makes a higher number, whatever follows
higher : (c d w a b : ℕ) → c < d → a < w → c * w + a < d * w + b
higher c d w a b less small = omega (arith, row_fits c w d w less (omega arith), small)

letters_rank : (n : ℕ) (a b : List ℕ) → AreLetters n a → AreLetters n b
    → MatchOrdering (slice_cmp nat_cmp a b) (digits_value n a < digits_value n b)
    (digits_value n a ≡ digits_value n b) (digits_value n b < digits_value n a)
letters_rank zero [] [] are more = refl
letters_rank zero [] (d ∷ ds) are more = absurd more
letters_rank zero (c ∷ cs) b are more = absurd are
letters_rank (suc n) [] [] are more = refl
letters_rank (suc n) [] (d ∷ ds) are more =
    omega (arith, higher 0 d (256 ^ n) 0 (digits_value n ds) more.0 (power_some n))
letters_rank (suc n) (c ∷ cs) [] are more =
    omega (arith, higher 0 c (256 ^ n) 0 (digits_value n cs) are.0 (power_some n))
letters_rank (suc n) (c ∷ cs) (d ∷ ds) are more =
    elim (nat_cmp c d) as (λ r. MatchOrdering r (c < d) (c ≡ d) (d < c)
    → MatchOrdering (ordering_then r (slice_cmp nat_cmp cs ds))
    (digits_value (suc n) (c ∷ cs) < digits_value (suc n) (d ∷ ds))
    (digits_value (suc n) (c ∷ cs) ≡ digits_value (suc n) (d ∷ ds))
    (digits_value (suc n) (d ∷ ds) < digits_value (suc n) (c ∷ cs))) [
      | Less ↦ λ less. higher c d (256 ^ n) _ _ less (below n cs are.2)
      | Equal ↦ λ same. rw same
          (in_front (slice_cmp nat_cmp cs ds) (d * 256 ^ n) (digits_value n cs) (digits_value n ds)
          (letters_rank n cs ds are.2 more.2))
      | Greater ↦ λ more_. higher d c (256 ^ n) _ _ more_ (below n ds more.2)
    ] (ranks c d)

name_is_short : (text : List ℕ) → IsName text → length text ≤ longest_name
name_is_short text is =
    let long : Bool = nat_le 1 (length text) && nat_le (length text) longest_name in
    let both : long ≡ true = (and_parts long (list_all is_name_character text) is).0 in
    let short : nat_le (length text) longest_name ≡ true =
    (and_parts (nat_le 1 (length text)) (nat_le (length text) longest_name) both).1 in
    grind (arith, nat_tests)

-- two names are in the order of their numbers
pub names_in_order : (a b : List ℕ) → IsName a → IsName b
    → nat_cmp (digits_value longest_name a) (digits_value longest_name b) ≡ slice_cmp nat_cmp a b
names_in_order a b one other =
    sym (nat_cmp_is (digits_value longest_name a) (digits_value longest_name b)
    (slice_cmp nat_cmp a b)
    (letters_rank longest_name a b (letters a one) (letters b other)))
  where
    letters : (text : List ℕ) → IsName text → AreLetters longest_name text
    letters text is =
        name_has_letters longest_name text (name_is_short text is)
        (and_parts (nat_le 1 (length text) && nat_le (length text) longest_name)
        (list_all is_name_character text) is).1

no_letters : (n : ℕ) → digits_value n [] ≡ 0
no_letters zero = refl
no_letters (suc n) = refl

-- zeros behind add nothing
zeros_add_nothing : (n k : ℕ) (text : List ℕ)
    → digits_value n (text ++ replicate k 0) ≡ digits_value n text
zeros_add_nothing zero k text = refl
zeros_add_nothing (suc n) zero [] = refl
zeros_add_nothing (suc n) (suc k) [] = omega (arith, zeros_add_nothing n k [], no_letters n)
zeros_add_nothing (suc n) k (letter ∷ letters) =
    ap (λ rest. letter * 256 ^ n + rest) (zeros_add_nothing n k letters)

-- a sum with its first summand apart
first_apart : (f : ℕ → ℕ) (k : ℕ)
    → sum_through f (suc k) ≡ f 0 + sum_through (λ i. f (suc i)) k
first_apart f zero = refl
first_apart f (suc k) = omega (arith, first_apart f k)

same_sums : (f g : ℕ → ℕ) (k : ℕ) → ((i : ℕ) → f i ≡ g i) → sum_through f k ≡ sum_through g k
same_sums f g zero same = same 0
same_sums f g (suc k) same = omega (arith, same_sums f g k same, same (suc k))

summed : (n : ℕ) (digits : List ℕ) → length digits ≡ suc n
    → sum_through (λ i. byte_worth (n - i) (slice_index digits i)) n ≡ digits_value (suc n) digits
summed n [] long = absurd (omega (arith, long))
summed zero (digit ∷ digits) long = omega arith
summed (suc n) (digit ∷ digits) long =
    first_apart (λ i. byte_worth (suc n - i) (slice_index (digit ∷ digits) i)) n
    ∙ ap₂ (λ first rest. first + rest) (ap (λ place. byte_worth place digit) first_place)
    (same_sums _ _ n (λ i. ap (λ place. byte_worth place (slice_index digits i)) (place_behind i))
    ∙ summed n digits (omega (arith, long)))
  where
    first_place : suc n - 0 ≡ suc n
    first_place = omega arith

    place_behind : (i : ℕ) → suc n - suc i ≡ n - i
    place_behind i = omega arith

-- sixteen bytes, of which the last are zeros, are the number of those before
pub number_of_letters : (text letters : List ℕ) (k : ℕ) → text ++ replicate k 0 ≡ letters
    → length letters ≡ longest_name
    → from_be_bytes w128 letters ≡ digits_value longest_name text
number_of_letters text letters k is long =
    summed 15 letters long ∙ ap (digits_value longest_name) (sym is)
    ∙ zeros_add_nothing longest_name k text

-- the letters of a name, as they are kept, are its number
pub kept_number : (letters : List ℕ) (len : ℕ) → IsPadded letters len
    → from_be_bytes w128 letters ≡ digits_value longest_name (take len letters)
kept_number letters len kept =
    let text : List ℕ = take len letters in
    let short : length text ≤ longest_name = name_is_short text kept.name in
    let long : length (padded text) ≡ longest_name =
    length-append text _ ∙ ap (λ n. length text + n) (length-replicate (longest_name - length text) 0)
    ∙ omega (arith, short) in
    number_of_letters text letters (longest_name - length text) kept.zeros
    (sym (ap length kept.zeros) ∙ long)
