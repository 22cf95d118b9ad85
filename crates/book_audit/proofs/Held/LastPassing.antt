-- The last of a list that passes a test, from either end.
use Rattle.std.proofs.Common.{◌≡◌, ◌∙◌, ◌∷◌, [], List, Bool, true, false, Option, Some, None, ap}
use Rattle.std.proofs.Common.{cond, map, refl, sym, filter, find, reverse, option_map}
use Rattle.book_model.proofs.Std.{AllByRecursion, last_or, option_or, reverse-append, find-append}

module _ {X Y : Type 0} (f : X → Y) where
  -- from the back, the first element of a list is the last one asked
  first_last : (q : X → Bool) (x : X) (xs : List X)
      → find q (reverse (x ∷ xs)) ≡ option_or (find q (reverse xs)) (cond (q x) (Some x) None)
  first_last q x xs =
      ap (find q) (reverse-append (x ∷ []) xs) ∙ find-append q (reverse xs) (x ∷ [])

  -- what is found of what is made of the elements is made of what is found of them
  pub found_made : (p : Y → Bool) (xs : List X)
      → find p (reverse (map f xs)) ≡ option_map f (find (λ (x : X). p (f x)) (reverse xs))
  found_made p [] = refl
  found_made p (x ∷ xs) =
      ap (find p) (reverse-append (f x ∷ []) (map f xs))
      ∙ find-append p (reverse (map f xs)) (f x ∷ [])
      ∙ ap (λ (front : Option Y). option_or front (cond (p (f x)) (Some (f x)) None)) (found_made p xs)
      ∙ by (find (λ (x : X). p (f x)) (reverse xs)) (p (f x))
      ∙ ap (option_map f) (sym (first_last (λ (x : X). p (f x)) x xs))
    where
      by : (found : Option X) (b : Bool)
          → option_or (option_map f found) (cond b (Some (f x)) None)
          ≡ option_map f (option_or found (cond b (Some x) None))
      by (Some one) b = refl
      by None true = refl
      by None false = refl

  -- the last of what is made of the elements that passes one test is made of the first from the back
  -- that passes another, where the two tests are the same for each
  pub last_passing : (p : Y → Bool) (q : X → Bool) (xs : List X)
      → AllByRecursion (λ (x : X). p (f x) ≡ q x) xs → (before : Option Y)
      → last_or before (filter p (map f xs))
      ≡ option_or (option_map f (find q (reverse xs))) before
  last_passing p q [] each before = refl
  last_passing p q (x ∷ xs) each before =
      ap (λ b. last_or before (cond b (f x ∷ filter p (map f xs)) (filter p (map f xs)))) each.0
      ∙ first (q x) (last_passing p q xs each.1)
      ∙ by (find q (reverse xs)) (q x)
      ∙ ap (λ (found : Option X). option_or (option_map f found) before) (sym (first_last q x xs))
    where
      first : (b : Bool)
          → ((some : Option Y) → last_or some (filter p (map f xs))
          ≡ option_or (option_map f (find q (reverse xs))) some)
          → last_or before (cond b (f x ∷ filter p (map f xs)) (filter p (map f xs)))
          ≡ option_or (option_map f (find q (reverse xs))) (cond b (Some (f x)) before)
      first true rest = rest (Some (f x))
      first false rest = rest before

      by : (found : Option X) (b : Bool)
          → option_or (option_map f found) (cond b (Some (f x)) before)
          ≡ option_or (option_map f (option_or found (cond b (Some x) None))) before
      by (Some one) b = refl
      by None true = refl
      by None false = refl
