-- The bytes before the point of a figure, counted one after the other.
use Rattle.std.proofs.Common.{◌≡◌, ◌∙◌, ℕ, ◌+◌, ◌<◌, ◌≤◌, Bool, true, false, List, [], ◌∷◌, length}
use Rattle.std.proofs.Common.{drop, get_or, ap, arith}
use Rattle.std.proofs.lemmas.List.{at_drop_all, at_drop_more}
use Rattle.std.specs.Prelude.{if◌then◌else◌}
use Rattle.bill_pages.specs.Grouped.{is_whole, whole_length}

-- so many were counted, and the others are left
abbrev pub AreCounted : List ℕ → ℕ → Type 0
AreCounted text i = i + whole_length (drop i text) ≡ whole_length text

-- one more of those that are left, or the first that is none of them
next_is : (b : Bool) (text : List ℕ) (i d : ℕ) → i < length text
    → is_whole (get_or text i d) ≡ b
    → whole_length (drop i text) ≡ (if b then 1 + whole_length (drop (i + 1) text) else 0)
next_is b text i d within is =
    at_drop_more whole_length text i d within
    ∙ ap (λ b. if b then 1 + whole_length (drop (i + 1) text) else 0) is

pub counted_more : (text : List ℕ) (i d : ℕ) → i < length text → AreCounted text i
    → is_whole (get_or text i d) ≡ true → AreCounted text (i + 1)
counted_more text i d within so_far is =
    let next : whole_length (drop i text) ≡ 1 + whole_length (drop (i + 1) text) =
    next_is true text i d within is in
    omega (arith, so_far, next)

pub counted_all : (text : List ℕ) (i d : ℕ) → i < length text → AreCounted text i
    → is_whole (get_or text i d) ≡ false → i ≡ whole_length text
counted_all text i d within so_far is =
    let next : whole_length (drop i text) ≡ 0 = next_is false text i d within is in
    omega (arith, so_far, next)

-- there are no more of them than bytes
no_more : (text : List ℕ) → whole_length text ≤ length text
no_more [] = omega arith
no_more (b ∷ rest) = by (is_whole b) (no_more rest)
  where
    by : (is : Bool) → whole_length rest ≤ length rest
        → (if is then 1 + whole_length rest else 0) ≤ length (b ∷ rest)
    by true few = omega (arith, few)
    by false few = omega arith

-- all bytes are
pub counted_to_end : (text : List ℕ) (i : ℕ) → length text ≤ i → AreCounted text i
    → length text ≡ whole_length text
counted_to_end text i all so_far =
    let none : whole_length (drop i text) ≡ 0 = at_drop_all whole_length text i all in
    let few = no_more text in
    omega (arith, so_far, none, few, all)
