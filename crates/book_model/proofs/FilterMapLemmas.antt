-- Entries that a partial function makes of the elements of a list.
use Rattle.std.proofs.Common.{◌≡◌, List, [], ◌∷◌, map, refl, sym, ap, ◌∙◌, true, false, cond, ◌||◌}
use Rattle.std.proofs.Common.{Option, Some, None, filter_map, option_map, Ordering, Less, Equal}
use Rattle.std.proofs.Common.{Greater}
use Rattle.std.specs.BTreeSet.{insert_key}
use Rattle.std.specs.FinMap.{find}
use Rattle.std.proofs.Math.Bool.{or-true}
use Rattle.book_model.proofs.Std.{IsTotalOrder, IsAntisymmetric, list_any, cons_option}
use Rattle.book_model.proofs.Std.{option_map_or, eq_by_cmp, match_ordering, eq_by_cmp_equiv}
use Rattle.book_model.proofs.MapLemmas.{by_tie}

-- what a function gives of what a partial function gives
pub map-filter_map : {X Y Z : Type 0} (f : Y → Z) (g : X → Option Y) (xs : List X)
    → map f (filter_map g xs) ≡ filter_map (λ x. option_map f (g x)) xs
map-filter_map f g [] = refl
map-filter_map {Z = Z} f g (x ∷ xs) =
    let rest = map-filter_map f g xs in
    elim (g x) as (λ given. map f (cons_option given (filter_map g xs))
    ≡ cons_option {X = Z} (option_map f given) (filter_map (λ x. option_map f (g x)) xs)) [
      | None ↦ rest
      | Some y ↦ ap (λ ys. f y ∷ ys) rest
    ]

module _ {N : Type 0} {R : N → N → Ordering} (o : IsTotalOrder R) (exact : IsAntisymmetric R)
    {V : Type 0} where
  -- An entry that one element makes, before others or not: it is found at its key, and the
  -- others are found as before, where none of them has its key.
  behind : (given : Option (N × V)) (old new : List (N × V)) (n : N) (v : V) (q : N)
      → find R n (cons_option given old) ≡ None
      → (find R n old ≡ None → find R q new ≡ cond (eq_by_cmp R q n) (Some v) (find R q old))
      → find R q (cons_option given new)
      ≡ cond (eq_by_cmp R q n) (Some v) (find R q (cons_option given old))
  behind None old new n v q none rest = rest none
  behind (Some entry) old new n v q none rest =
      elim (eq_by_cmp R n entry.0) as (λ b. eq_by_cmp R n entry.0 ≡ b
      → cond b (Some entry.1) (find R n old) ≡ None
      → cond (eq_by_cmp R q entry.0) (Some entry.1) (find R q new)
      ≡ cond (eq_by_cmp R q n) (Some v)
      (cond (eq_by_cmp R q entry.0) (Some entry.1) (find R q old))) [
        | true ↦ λ tied none. cc
        | false ↦ λ apart none.
            ap (cond (eq_by_cmp R q entry.0) (Some entry.1)) (rest none)
            ∙ by_tie o exact q n
            (λ b. cond (eq_by_cmp R q entry.0) (Some entry.1) (cond b (Some v) (find R q old)))
            (λ b. cond b (Some v) (cond (eq_by_cmp R q entry.0) (Some entry.1) (find R q old)))
            (λ same. ap (λ q. cond (eq_by_cmp R q entry.0) (Some entry.1) (Some v)) same
            ∙ ap (λ b. cond b (Some entry.1) (Some v)) apart)
            (λ other. refl)
      ] refl none

  -- an entry at the head is found at its key
  at_front : (given : Option (N × V)) (rest : List (N × V)) (n : N) (v : V) → given ≡ Some (n, v)
      → find R n (cons_option given rest) ≡ Some v
  at_front given rest n v is =
      ap (λ g. find R n (cons_option g rest)) is
      ∙ ap (λ b. cond b (Some v) (find R n rest)) ((eq_by_cmp_equiv o).refl n)

  -- an entry that is not the key's leaves the key unfound
  passed_by : (given : Option (N × V)) (rest : List (N × V)) (n : N)
      → option_map_or (λ entry. eq_by_cmp R n entry.0) given false ≡ false → find R n rest ≡ None
      → find R n (cons_option given rest) ≡ None
  passed_by None rest n first none = none
  passed_by (Some entry) rest n first none =
      ap (λ b. cond b (Some entry.1) (find R n rest)) first ∙ none

  module _ {K : Type 0} {S : K → K → Ordering} (e : K → Option (N × V)) where
    -- A list in order with one more element, which makes an entry with a key that no other has: the
    -- entry is found at its key, and the others are found as before.
    pub find-insert_key : IsAntisymmetric S → (k : K) (n : N) (v : V) → e k ≡ Some (n, v)
        → (xs : List K)
        → find R n (filter_map e xs) ≡ None → (q : N)
        → find R q (filter_map e (insert_key S xs k))
        ≡ cond (eq_by_cmp R q n) (Some v) (find R q (filter_map e xs))
    find-insert_key one k n v is [] none q = ap (λ given. find R q (cons_option given [])) is
    find-insert_key one k n v is (x ∷ xs) none q =
        elim (S k x) as (λ r. S k x ≡ r
        → find R q (filter_map e (match_ordering r (k ∷ x ∷ xs) (x ∷ xs) (x ∷ insert_key S xs k)))
        ≡ cond (eq_by_cmp R q n) (Some v) (find R q (filter_map e (x ∷ xs)))) [
          | Less ↦ λ less. ap (λ given. find R q (cons_option given (filter_map e (x ∷ xs)))) is
          | Equal ↦ λ tied.
              let here = at_front (e x) (filter_map e xs) n v (ap e (sym (one k x tied)) ∙ is) in
              cc
          | Greater ↦ λ more.
              behind (e x) (filter_map e xs) (filter_map e (insert_key S xs k)) n v q none
              (λ none. find-insert_key one k n v is xs none q)
        ] refl

    -- a key that no element's entry has is not found
    pub find-none : IsTotalOrder S → (n : N) (xs : List K)
        → ((x : K) → list_any (eq_by_cmp S x) xs ≡ true
        → option_map_or (λ entry. eq_by_cmp R n entry.0) (e x) false ≡ false)
        → find R n (filter_map e xs) ≡ None
    find-none p n [] none = refl
    find-none p n (x ∷ xs) none =
        let first =
        none x (ap (λ b. b || list_any (eq_by_cmp S x) xs) ((eq_by_cmp_equiv p).refl x)) in
        let rest = find-none p n xs (λ y among.
        none y (ap (λ b. eq_by_cmp S y x || b) among ∙ or-true (eq_by_cmp S y x))) in
        passed_by (e x) (filter_map e xs) n first rest
