-- A list that is read from the front, one element after another.
use Rattle.std.proofs.Common.{◌≡◌, ◌∙◌, ◌≤◌, ℕ, zero, suc, ◌+◌, List, [], ◌∷◌, ◌++◌, length, take}
use Rattle.std.proofs.Common.{ap, arith, sym, take_all, Option, Some, None, slice_get}
use Rattle.book_model.proofs.Std.{take_more, get_or_from_slice_get, slice_get_within}

-- one further
pub next_taken : {X : Type 0} (xs : List X) (i : ℕ) (x : X) → slice_get xs i ≡ Some x
    → take (i + 1) xs ≡ take i xs ++ x ∷ []
next_taken xs i x is =
    take_more xs i x (slice_get_within xs i x is)
    ∙ ap (λ y. take i xs ++ y ∷ []) (get_or_from_slice_get xs i x x is)

past_end : {X : Type 0} (xs : List X) (i : ℕ) → slice_get xs i ≡ None → length xs ≤ i
past_end [] i none = omega arith
past_end (x ∷ xs) zero none = cc
past_end (x ∷ xs) (suc i) none = omega (arith, past_end xs i none)

-- past the last one
pub all_taken : {X : Type 0} (xs : List X) (i : ℕ) → slice_get xs i ≡ None → take i xs ≡ xs
all_taken xs i none = take_all i xs (past_end xs i none)

-- so many elements of a list were read, and that is the next one, if there is one
pub record IsFront {X : Type 0} (all : List X) (count : ℕ) (read : List X) (next : Option X)
    : Type 0 where
  pub front : take count all ≡ read
  pub there : slice_get all count ≡ next

-- with the next one
pub front_taken : {X : Type 0} {all read : List X} {count : ℕ} {x : X} {next : Option X}
    → IsFront all count read next → next ≡ Some x → take (count + 1) all ≡ read ++ x ∷ []
front_taken {all = all} {count = count} {x = x} it is =
    next_taken all count x (it.there ∙ is) ∙ ap (λ front. front ++ x ∷ []) it.front

-- with no next one these are all
pub front_all : {X : Type 0} {all read : List X} {count : ℕ} {next : Option X}
    → IsFront all count read next → next ≡ None → read ≡ all
front_all {all = all} {count = count} it last =
    sym it.front ∙ all_taken all count (it.there ∙ last)
