-- A rising list of elements of another rising list is that list, if it is as long.
use Rattle.std.proofs.Common.{◌≡◌, ◌≤◌, ◌⊎◌, inl, inr, List, [], ◌∷◌, length, refl, subst, sym}
use Rattle.std.proofs.Common.{arith, ap₂, Ordering, Less}
use Rattle.sqlite_trees.specs.Tree.{IsAscending}
use Rattle.book_model.proofs.Std.{IsTotalOrder, tied_itself, AllByRecursion}

-- it is one of these
abbrev pub IsOneOf : {X : Type 0} → X → List X → Type 0
IsOneOf x [] = ⊥
IsOneOf x (y ∷ ys) = (x ≡ y) ⊎ IsOneOf x ys

-- what holds of all elements holds of one of them
pub of_one : {X : Type 0} (G : X → Type 0) (xs : List X) → AllByRecursion G xs → (x : X)
    → IsOneOf x xs → G x
of_one G [] each x one = absurd one
of_one G (y ∷ xs) each x (inl is) = subst G (sym is) each.0
of_one G (y ∷ xs) each x (inr later) = of_one G xs each.1 x later

-- each element is one of them
pub each_is_one : {X : Type 0} (all xs : List X) → ((x : X) → IsOneOf x xs → IsOneOf x all)
    → AllByRecursion (λ (x : X). IsOneOf x all) xs
each_is_one all [] among = tt
each_is_one all (x ∷ xs) among =
    (among x (inl refl), each_is_one all xs (λ y later. among y (inr later)))

module _ {X : Type 0} {R : X → X → Ordering} (total : IsTotalOrder R) where
  abbrev pub Rises : List X → Type 0
  Rises = IsAscending (λ a b. R a b ≡ Less)

  -- nothing is below itself
  pub not_below : (x : X) → R x x ≡ Less → ⊥
  not_below x less = let tie = tied_itself total x in absurd (cc)

  -- an element of a rising list is not below its first
  not_first : (x y : X) (ys : List X) → AllByRecursion (λ b. R y b ≡ Less) ys → IsOneOf x ys
      → R y x ≡ Less
  not_first x y [] above one = absurd one
  not_first x y (z ∷ ys) above (inl is) = subst (λ w. R y w ≡ Less) (sym is) above.0
  not_first x y (z ∷ ys) above (inr later) = not_first x y ys above.1 later

  -- elements that are above the first of a list are among the others
  all_later : (y : X) (ys xs : List X) → AllByRecursion (λ b. R y b ≡ Less) xs
      → AllByRecursion (λ x. IsOneOf x (y ∷ ys)) xs → AllByRecursion (λ x. IsOneOf x ys) xs
  all_later y ys [] above each = tt
  all_later y ys (x ∷ xs) above each =
      (behind each.0, all_later y ys xs above.1 each.1)
    where
      behind : IsOneOf x (y ∷ ys) → IsOneOf x ys
      behind (inl is) = absurd (not_below y (subst (λ w. R y w ≡ Less) is above.0))
      behind (inr later) = later

  -- what is above an element is above what is below that
  above_both : (y x : X) (xs : List X) → R y x ≡ Less → AllByRecursion (λ b. R x b ≡ Less) xs
      → AllByRecursion (λ b. R y b ≡ Less) xs
  above_both y x [] less above = tt
  above_both y x (z ∷ xs) less above =
      (total.trans y x z less above.0, above_both y x xs less above.1)

  -- there are no more of them
  pub no_more : (ys xs : List X) → Rises xs → Rises ys → AllByRecursion (λ x. IsOneOf x ys) xs
      → length xs ≤ length ys
  no_more [] [] up rising each = omega arith
  no_more [] (x ∷ xs) up rising each = absurd each.0
  no_more (y ∷ ys) [] up rising each = omega arith
  no_more (y ∷ ys) (x ∷ xs) up rising each = elim each.0 [
    | inl is ↦ (
        let fewer = no_more ys xs up.1 rising.1 (all_later y ys xs
        (subst (λ w. AllByRecursion (λ b. R w b ≡ Less) xs) is up.0) each.1) in
        omega (arith, fewer))
    | inr later ↦ (
        let fewer = no_more ys (x ∷ xs) up rising.1
        (later, all_later y ys xs (above_both y x xs (not_first x y ys rising.0 later) up.0) each.1) in
        omega (arith, fewer))
  ]

  -- and if they are as many, they are all
  pub all_of_them : (ys xs : List X) → Rises xs → Rises ys → AllByRecursion (λ x. IsOneOf x ys) xs
      → length xs ≡ length ys → xs ≡ ys
  all_of_them [] [] up rising each long = refl
  all_of_them [] (x ∷ xs) up rising each long = absurd (omega (arith, long))
  all_of_them (y ∷ ys) [] up rising each long = absurd (omega (arith, long))
  all_of_them (y ∷ ys) (x ∷ xs) up rising each long = elim each.0 [
    | inl is ↦ ap₂ (λ one more. one ∷ more) is (all_of_them ys xs up.1 rising.1 (all_later y ys xs
        (subst (λ w. AllByRecursion (λ b. R w b ≡ Less) xs) is up.0) each.1) (omega (arith, long)))
    | inr later ↦ (
        let fewer = no_more ys (x ∷ xs) up rising.1
        (later, all_later y ys xs (above_both y x xs (not_first x y ys rising.0 later) up.0) each.1) in
        absurd (omega (arith, fewer, long)))
  ]
