-- The entries of a map that is made of a list, and those of them that pass a test.
use Rattle.std.proofs.Common.{◌≡◌, List, [], ◌∷◌, refl, sym, ap, ◌∙◌, subst, true, false, Bool}
use Rattle.std.proofs.Common.{cond, Option, Some, None, T, arith, get_or, length, filter}
use Rattle.std.proofs.Common.{filter_map, Contains, IsPermutation, is_eq, Ordering, Less, Equal}
use Rattle.std.proofs.Common.{Greater}
use Rattle.std.specs.FinMap.{find, entries-insert}
use Rattle.std.specs.FinMap.Entries.{put, by_order, same_entries}
use Rattle.std.proofs.lemmas.List.Sorted.{IsPermutation-cons, IsPermutation-middle}
use Rattle.std.proofs.lemmas.List.Sorted.{Contains-permutation}
use Rattle.book_model.proofs.Std.{IsTotalOrder, FinMap, IsAntisymmetric, entries, empty}
use Rattle.book_model.proofs.Std.{from_entries, entries_sorted, get-entries, get-from_entries}
use Rattle.book_model.proofs.Std.{len-entries, len-empty, is_sorted, cons_option}
use Rattle.book_model.proofs.Std.{IsPermutation-refl, IsPermutation-trans, length_permutation}

-- a list of no length
pub no_length : {X : Type 0} (xs : List X) → length xs ≡ 0 → xs ≡ []
no_length [] none = refl
no_length (x ∷ xs) none = absurd (omega arith)

-- no two entries have one key
abbrev pub Apart : {N V : Type 0} → (N → N → Ordering) → List (N × V) → Type 0
Apart R [] = Unit {0}
Apart R (e ∷ es) = (find R e.0 es ≡ None) × Apart R es

-- of a list of one element each other order is that list
pub permuted_one : {X : Type 0} (xs : List X) (y : X) → IsPermutation xs (y ∷ []) → xs ≡ y ∷ []
permuted_one [] y same = let count = length_permutation [] (y ∷ []) same in absurd (omega arith)
permuted_one (x ∷ []) y same =
    let first : Contains (x ∷ []) x = (0, omega arith, refl) in
    let place = Contains-permutation (x ∷ []) (y ∷ []) x same first in
    let zeroth : place.0 ≡ 0 = let within = place.1 in omega arith in
    ap (λ z. z ∷ []) (sym (ap (λ k. get_or (y ∷ []) k x) (sym zeroth) ∙ place.2))
permuted_one (x ∷ z ∷ xs) y same =
    let count = length_permutation (x ∷ z ∷ xs) (y ∷ []) same in absurd (omega arith)

-- what a partial function gives of the elements that pass, where what it gives passes as they do
pub filter-filter_map : {X Y : Type 0} (give : X → Option Y) (p : Y → Bool) (q : X → Bool)
    → ((x : X) (y : Y) → give x ≡ Some y → p y ≡ q x) → (xs : List X)
    → filter p (filter_map give xs) ≡ filter_map give (filter q xs)
filter-filter_map give p q agree [] = refl
filter-filter_map {X} {Y} give p q agree (x ∷ xs) =
    let rest = filter-filter_map give p q agree xs in
    let others : List X = filter q xs in
    elim (give x) as
    (λ given. give x ≡ given → filter p (cons_option given (filter_map give xs))
    ≡ filter_map give (cond (q x) (x ∷ others) others)) [
      | None ↦ λ e. rest
          ∙ elim (q x) as
          (λ b. filter_map give others ≡ filter_map give (cond b (x ∷ others) others)) [
            | true ↦ ap (λ given. cons_option given (filter_map give others)) (sym e)
            | false ↦ refl
          ]
      | Some y ↦ λ e. ap
          (λ b. cond b (y ∷ filter p (filter_map give xs)) (filter p (filter_map give xs)))
          (agree x y e)
          ∙ elim (q x) as
          (λ b. cond b (y ∷ filter p (filter_map give xs)) (filter p (filter_map give xs))
          ≡ filter_map give (cond b (x ∷ others) others)) [
            | true ↦ ap (λ ys. y ∷ ys) rest
                ∙ ap (λ given. cons_option given (filter_map give others)) (sym e)
            | false ↦ rest
          ]
    ] refl

module _ {N V : Type 0} {R : N → N → Ordering} (o : IsTotalOrder R) (exact : IsAntisymmetric R)
  where
    -- a list in the order of its keys has the entries of its map
    pub entries-sorted : (es : List (N × V)) → T (is_sorted R es)
        → entries (from_entries {R = R} es)
        ≡ es
    entries-sorted es rising =
        let m : FinMap R V = from_entries es in
        same_entries R o exact (entries m) es (entries_sorted m) rising
        (λ q. sym (get-entries m q) ∙ get-from_entries o es q)

    module _ (p : N × V → Bool) where
      -- one more entry, in its place or at the head
      filter-put : (n : N) (v : V) (es : List (N × V)) → find R n es ≡ None
          → IsPermutation (filter p (put R n v es)) (filter p ((n, v) ∷ es))
      filter-put n v [] none = IsPermutation-refl (filter p ((n, v) ∷ []))
      filter-put n v (e ∷ es) none =
          elim (R n e.0) as (λ r. cond (is_eq r) (Some e.1) (find R n es) ≡ None
          → IsPermutation
          (filter p (by_order r ((n, v) ∷ e ∷ es) ((e.0, v) ∷ es) (e ∷ put R n v es)))
          (filter p ((n, v) ∷ e ∷ es))) [
            | Less ↦ λ none. IsPermutation-refl (filter p ((n, v) ∷ e ∷ es))
            | Equal ↦ λ none. absurd (something e.1 none)
            | Greater ↦ λ none. in_front (p e) (p (n, v)) (filter p (put R n v es)) (filter p es) e
                (n, v) (filter-put n v es none)
          ] none
        where
          something : (v : V) → Some v ≡ None → ⊥
          something v none = cc

          in_front : (first own : Bool) (new old : List (N × V)) (e own_entry : N × V)
              → IsPermutation new (cond own (own_entry ∷ old) old)
              → IsPermutation (cond first (e ∷ new) new)
              (cond own (own_entry ∷ cond first (e ∷ old) old) (cond first (e ∷ old) old))
          in_front true true new old e own_entry same =
              IsPermutation-trans (e ∷ new) (e ∷ own_entry ∷ old) (own_entry ∷ e ∷ old)
              (IsPermutation-cons e new (own_entry ∷ old) same)
              (IsPermutation-middle (e ∷ []) own_entry old)
          in_front true false new old e own_entry same = IsPermutation-cons e new old same
          in_front false true new old e own_entry same = same
          in_front false false new old e own_entry same = same

      -- those of a map that pass a test are those of the list that made it
      pub filter-from_entries : (es : List (N × V)) → Apart R es
          → IsPermutation (filter p (entries (from_entries {R = R} es))) (filter p es)
      filter-from_entries [] apart =
          let none : entries (empty {X = V} {R = R}) ≡ [] =
          no_length (entries (empty {X = V} {R = R}))
          (sym (len-entries (empty {X = V} {R = R})) ∙ len-empty R V) in
          subst (λ es. IsPermutation (filter p es) []) (sym none) (IsPermutation-refl [])
      filter-from_entries (e ∷ es) apart =
          let m : FinMap R V = from_entries es in
          let new = sym (get-entries m e.0) ∙ get-from_entries o es e.0 ∙ apart.0 in
          subst (λ es'. IsPermutation (filter p es') (filter p (e ∷ es)))
          (sym (entries-insert o m e.0 e.1))
          (IsPermutation-trans (filter p (put R e.0 e.1 (entries m))) (filter p (e ∷ entries m))
          (filter p (e ∷ es))
          (filter-put e.0 e.1 (entries m) new) (front (p e) (filter-from_entries es apart.1)))
        where
          front : (b : Bool) {xs ys : List (N × V)} → IsPermutation xs ys
              → IsPermutation (cond b (e ∷ xs) xs) (cond b (e ∷ ys) ys)
          front true {xs} {ys} same = IsPermutation-cons e xs ys same
          front false same = same
