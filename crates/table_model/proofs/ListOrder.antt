-- Lists in strict order, and what holds of each of their elements.
use Rattle.std.proofs.Common.{◌≡◌, ℕ, List, [], ◌∷◌, ◌++◌, refl, ap, ◌∙◌, true, map, ◌||◌, Ordering}
use Rattle.std.proofs.Common.{Less, Equal, Greater}
use Rattle.std.specs.List.Sorted.{IsStrictlySortedBy}
use Rattle.std.proofs.Math.Bool.{or-true}
use Rattle.book_model.proofs.Std.{AllByRecursion, list_any, ordering_then}
use Rattle.book_model.proofs.Lemmas.{is, is_first}

module _ {X : Type 0} (P : X → Type 0) where
  -- what holds of the elements of each of two lists holds of those of both together
  pub all_joined : (xs ys : List X) → AllByRecursion P xs → AllByRecursion P ys
      → AllByRecursion P (xs ++ ys)
  all_joined [] ys one other = other
  all_joined (x ∷ xs) ys one other = (one.0, all_joined xs ys one.1 other)

  -- what follows of each element
  pub all_so : (Q : X → Type 0) → ((x : X) → P x → Q x) → (xs : List X) → AllByRecursion P xs
      → AllByRecursion Q xs
  all_so Q so [] all = tt
  all_so Q so (x ∷ xs) all = (so x all.0, all_so Q so xs all.1)

-- what holds of the results of a function
pub all_unmapped : {X Y : Type 0} (P : Y → Type 0) (f : X → Y) (xs : List X)
    → AllByRecursion P (map f xs)
    → AllByRecursion (λ x. P (f x)) xs
all_unmapped P f [] all = tt
all_unmapped P f (x ∷ xs) all = (all.0, all_unmapped P f xs all.1)

-- what holds of all texts of a list holds of each of its elements
pub all_texts : (P : List ℕ → Type 0) (ks : List (List ℕ))
    → ((k : List ℕ) → list_any (is k) ks ≡ true → P k) → AllByRecursion P ks
all_texts P [] each = tt
all_texts P (k ∷ ks) each = (
  each k (is_first k ks),
  all_texts P ks
      (λ other among. each other (ap (λ b. is other k || b) among ∙ or-true (is other k))),
)

-- two lists in order are in order together if each of the first is below each of the second
pub rise_together : {X : Type 0} (R : X → X → Ordering) (xs ys : List X)
    → IsStrictlySortedBy R xs → IsStrictlySortedBy R ys
    → AllByRecursion (λ x. AllByRecursion (λ y. R x y ≡ Less) ys) xs
    → IsStrictlySortedBy R (xs ++ ys)
unfolding IsStrictlySortedBy
rise_together R [] ys one other below = other
rise_together {X} R (x ∷ xs) ys one other below = (
  all_joined (λ (y : X). R x y ≡ Less) xs ys one.0 below.0,
  rise_together R xs ys one.1 other below.1,
)

-- of three in turn that give Less, the first two do, if the third does not decide
pub first_two : (r s t : Ordering) → ordering_then r (ordering_then s t) ≡ Less
    → (s ≡ Equal → t ≡ Less → ⊥) → ordering_then r s ≡ Less
first_two Less s t less undecided = refl
first_two Equal Less t less undecided = refl
first_two Equal Equal t less undecided = absurd (undecided refl less)
first_two Equal Greater t less undecided = cc
first_two Greater s t less undecided = cc
