-- Entries that give each key of a list a value of its own.
use Rattle.std.proofs.Common.{◌≡◌, List, [], ◌∷◌, refl, sym, ap, subst, cond, ◌||◌, ◌&&◌, Some}
use Rattle.std.proofs.Common.{None, map, T, is_lt, is_eq, Ordering, Less, Equal, Greater}
use Rattle.std.specs.FinMap.Entries.{find, below_all}
use Rattle.book_model.proofs.Std.{is_sorted, list_any, eq_by_cmp}
use Rattle.book_model.specs.Words.{Set, members}
use Rattle.std.specs.FinMap as fin

-- each key with its value
abbrev pub pairs : {K V : Type 0} → (K → V) → List K → List (K × V)
pairs {K} {V} value keys = map {B = K × V} (λ key. (key, value key)) keys

module _ {K V : Type 0} (R : K → K → Ordering) (value : K → V) where
  -- a key is below all pairs where it is below all their keys
  below_all-pairs : (key : K) (es : List (K × Unit {0}))
      → below_all R key (pairs value (map (λ e. e.0) es)) ≡ below_all R key es
  below_all-pairs key [] = refl
  below_all-pairs key (e ∷ es) = ap (λ b. is_lt (R key e.0) && b) (below_all-pairs key es)

  -- pairs are in order where their keys are
  is_sorted-pairs : (es : List (K × Unit {0}))
      → is_sorted R (pairs value (map (λ e. e.0) es)) ≡ is_sorted R es
  is_sorted-pairs [] = refl
  is_sorted-pairs (e ∷ es) = λ i. below_all-pairs e.0 es i && is_sorted-pairs es i

  -- so those of the members of a set are
  pub is_sorted-members : (s : Set R) → T (is_sorted R (pairs value (members s)))
  is_sorted-members s = subst T (sym (is_sorted-pairs (fin.entries s))) (fin.entries_sorted s)

  -- a key that is there finds its own value
  pub find-pairs : fin.IsAntisymmetric R → (q : K) (keys : List K)
      → find R q (pairs value keys) ≡ cond (list_any (eq_by_cmp R q) keys) (Some (value q)) None
  find-pairs exact q [] = refl
  find-pairs exact q (key ∷ keys) =
      elim (R q key) as (λ r. R q key ≡ r
      → cond (is_eq r) (Some (value key)) (find R q (pairs value keys))
      ≡ cond (is_eq r || list_any (eq_by_cmp R q) keys) (Some (value q)) None) [
        | Less ↦ λ e. find-pairs exact q keys
        | Equal ↦ λ e. ap (λ x. Some (value x)) (sym (exact q key e))
        | Greater ↦ λ e. find-pairs exact q keys
      ] refl
