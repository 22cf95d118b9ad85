-- One entry more of a map, and one element among those that pass a test.
use Rattle.std.proofs.Common.{◌≡◌, List, [], ◌∷◌, refl, sym, ap, ◌∙◌, subst, true, false, Bool}
use Rattle.std.proofs.Common.{cond, ◌||◌, ◌&&◌, Some, None, is_some, ℕ, zero, suc, ◌<◌, length, map}
use Rattle.std.proofs.Common.{get_or, true≢false, arith, sum_by, All, filter, is_eq, Ordering, Less}
use Rattle.std.proofs.Common.{Equal, Greater}
use Rattle.std.specs.BTreeMap.{is_at, insert_entry}
use Rattle.std.specs.BTreeSet.{insert_key}
use Rattle.std.specs.Map.{lookup}
use Rattle.std.proofs.Math.Bool.{or-false, and-true, and-false}
use Rattle.std.proofs.lemmas.Map.Made.{is_some-lookup}
use Rattle.std.proofs.lemmas.Map.Views.{All-insert_key}
use Rattle.book_model.proofs.Std.{IsEquivalence, list_any, IsDistinct, match_ordering}
use Rattle.book_model.proofs.Std.{All-from_recursion, list_any_at, list_any_none, IsDistinct-head}
use Rattle.book_model.proofs.Std.{IsDistinct-tail}
use Rattle.book_model.proofs.Lemmas.{list_any-map, SumsAlike}
use Rattle.book_model.proofs.SetLemmas.{insert_key-alike}

module _ {K X : Type 0} (R : K → K → Ordering) (k : K) (v : X) where
  -- an entry with a missing key is in its place among the others, which stay
  insert_entry-missing : (es : List (K × X)) → lookup (is_at (R k)) es ≡ None
      → insert_entry R es k v ≡ insert_key (λ a b. R a.0 b.0) es (k, v)
  insert_entry-missing [] missing = refl
  insert_entry-missing (e ∷ es) missing =
      let before : List (K × X) = insert_key (λ a b. R a.0 b.0) es (k, v) in
      elim (R k e.0) as (λ r.
      cond (is_eq r) (Some e.1) (lookup (is_at (R k)) es) ≡ None
      → match_ordering r ((k, v) ∷ e ∷ es) ((e.0, v) ∷ es) (e ∷ insert_entry R es k v)
      ≡ match_ordering r ((k, v) ∷ e ∷ es) (e ∷ es) (e ∷ before)) [
        | Less ↦ λ missing. refl
        | Equal ↦ λ missing. cc
        | Greater ↦ λ missing. ap (λ rest. e ∷ rest) (insert_entry-missing es missing)
      ] missing

  -- so there is one entry more
  pub insert_entry-alike : (es : List (K × X)) → lookup (is_at (R k)) es ≡ None
      → SumsAlike (insert_entry R es k v) ((k, v) ∷ es)
  insert_entry-alike es missing =
      let among_keys = list_any-map (is_at (R k)) (λ e. e.0) es in
      let no_key = sym (is_some-lookup (is_at (R k)) es) ∙ ap is_some missing in
      let more = insert_key-alike (λ a b. R a.0 b.0) (k, v) es (sym among_keys ∙ no_key) in
      record { sums = λ f. ap (sum_by f) (insert_entry-missing es missing) ∙ more.sums f }

  -- and what holds of it and of each other holds of each
  pub All-insert_entry : (P : K × X → Type 0) (es : List (K × X)) → lookup (is_at (R k)) es ≡ None
      → All P es → P (k, v) → All P (insert_entry R es k v)
  All-insert_entry P es missing all one =
      subst (All P) (sym (insert_entry-missing es missing))
      (All-insert_key (λ a b. R a.0 b.0) (k, v) P es all one)

module _ {X : Type 0} where
  -- one of those that pass a test passes another where one of all passes both
  pub any-filter : (p q : X → Bool) (xs : List X) → list_any q (filter p xs)
      ≡ list_any (λ x. p x && q x) xs
  any-filter p q [] = refl
  any-filter p q (x ∷ xs) =
      let rest = any-filter p q xs in
      elim (p x) as (λ b. list_any q (cond b (x ∷ filter p xs) (filter p xs))
      ≡ ((b && q x) || list_any (λ x. p x && q x) xs)) [
        | true ↦ ap (λ b. q x || b) rest
        | false ↦ rest
      ]

  -- none passes a test and another one where none passes the other one
  any-neither : (p q : X → Bool) (xs : List X) → list_any q xs ≡ false
      → list_any (λ x. p x && q x) xs ≡ false
  any-neither p q [] none = refl
  any-neither p q (x ∷ xs) none =
      elim (q x) as (λ b. (b || list_any q xs) ≡ false
      → ((p x && b) || list_any (λ x. p x && q x) xs) ≡ false) [
        | true ↦ λ one. absurd (true≢false one)
        | false ↦ λ none. ap (λ b. b || list_any (λ x. p x && q x) xs) (and-false (p x))
            ∙ any-neither p q xs none
      ] none

  -- an element that ties with none but itself passes a test where one does that ties with it
  pub any_at_itself : {K : Type 0} {eq : K → K → Bool} → IsEquivalence eq → (f : X → K)
      (p : X → Bool) (xs : List X) → IsDistinct eq (map f xs) → (k : ℕ) (d : X) → k < length xs
      → list_any (λ x. p x && eq (f (get_or xs k d)) (f x)) xs ≡ p (get_or xs k d)
  any_at_itself laws f p [] apart k d within = absurd (omega arith)
  any_at_itself {K} {eq} laws f p (x ∷ xs) apart zero d within =
      let others = list_any_none (eq (f x)) (map f xs)
      (All-from_recursion _ (map f xs) (IsDistinct-head eq (f x) (map f xs) apart)) in
      let none = any-neither p (λ y. eq (f x) (f y)) xs
      (sym (list_any-map (eq (f x)) f xs) ∙ others) in
      (λ i. (p x && laws.refl (f x) i) || none i)
      ∙ or-false (p x && true) ∙ and-true (p x)
  any_at_itself {K} {eq} laws f p (x ∷ xs) apart (suc k) d within =
      let inside : k < length xs = omega arith in
      let z = get_or xs k d in
      let others = list_any_none (eq (f x)) (map f xs)
      (All-from_recursion _ (map f xs) (IsDistinct-head eq (f x) (map f xs) apart)) in
      let differs : eq (f z) (f x) ≡ false =
      elim (eq (f z) (f x)) as (λ b. eq (f z) (f x) ≡ b → b ≡ false) [
        | true ↦ λ tied. absurd (true≢false
            (sym (list_any-map (eq (f x)) f xs
            ∙ list_any_at (λ y. eq (f x) (f y)) xs k d inside (laws.symm (f x) (f z) ∙ tied))
            ∙ others))
        | false ↦ λ apart. refl
      ] refl in
      (λ i. (p x && differs i) || list_any (λ y. p y && eq (f z) (f y)) xs)
      ∙ ap (λ b. b || list_any (λ y. p y && eq (f z) (f y)) xs) (and-false (p x))
      ∙ any_at_itself laws f p xs (IsDistinct-tail eq (f x) (map f xs) apart) k d inside
