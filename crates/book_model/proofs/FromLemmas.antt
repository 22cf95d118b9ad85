-- Bytes from some bytes on, what is found first from there, and walks over items by their keys, and so
-- over disputes.
use Rattle.std.proofs.Common.{◌≡◌, ◌∙◌, ℕ, List, [], ◌∷◌, ◌++◌, map, Bool, true, false, not, cond}
use Rattle.std.proofs.Common.{Option, Some, refl, sym, ap, subst, true≢false, arith, filter, find}
use Rattle.std.proofs.Common.{slice_get, option_map, is_lt, nat_cmp, Less, Equal, Greater, map-id}
use Rattle.std.specs.List.Sorted.{IsStrictlySortedBy}
use Rattle.book_model.proofs.Std.{nat_cmp_total, tied_itself, AllByRecursion, ordering_reverse}
use Rattle.book_model.proofs.Std.{ordering_then, nat_tests, nat_list_cmp_total}
use Rattle.book_model.proofs.Std.{IsStrictlySortedBy-filter, exact_bytes, map-map}
use Rattle.book_model.specs.Words.{Disputed, dispute_at, dispute_from, disputes_in, identities}
use Rattle.book_model.specs.Words.{is_from, is_in_dispute, Naming, Records, by_bytes, Rulings}
use Rattle.book_model.specs.Words.{identity_by, members, set_of}
use Rattle.book_model.proofs.SetLemmas.{members_rise}

-- what is below some bytes is not from them on
pub not_from : (bytes other : List ℕ) → by_bytes other bytes ≡ Less → is_from bytes other ≡ true → ⊥
not_from bytes other below from =
    true≢false (sym from ∙ ap (λ o. not (is_lt o)) below)

-- with a byte more, bytes come after themselves
pub longer_after : (bytes : List ℕ) → by_bytes (bytes ++ 0 ∷ []) bytes ≡ Greater
longer_after [] = refl
longer_after (byte ∷ bytes) =
    ap (λ o. ordering_then o (by_bytes (bytes ++ 0 ∷ []) bytes)) (tied_itself nat_cmp_total byte)
    ∙ longer_after bytes

-- so they are from themselves on,
pub longer_from : (bytes : List ℕ) → is_from bytes (bytes ++ 0 ∷ []) ≡ true
longer_from bytes = ap (λ o. not (is_lt o)) (longer_after bytes)

-- as without it
pub same_from : (bytes : List ℕ) → is_from bytes bytes ≡ true
same_from bytes = ap (λ o. not (is_lt o)) (tied_itself nat_list_cmp_total bytes)

-- no number is below zero, and no bytes are below none
none_below : (n : ℕ) → is_lt (nat_cmp n 0) ≡ false
none_below n = grind (arith, nat_tests)

not_below_none : (bytes : List ℕ) → not (is_lt (by_bytes bytes [])) ≡ true
not_below_none [] = refl
not_below_none (byte ∷ bytes) = refl

-- What comes after some bytes comes from them on with a zero byte behind.
pub next_from : (bytes other : List ℕ) → by_bytes other bytes ≡ Greater
    → is_from (bytes ++ 0 ∷ []) other ≡ true
next_from [] [] after = cc
next_from [] (first ∷ other) after =
    elim (nat_cmp first 0) as (λ o. nat_cmp first 0 ≡ o
    → not (is_lt (ordering_then o (by_bytes other []))) ≡ true) [
      | Less ↦ λ below. absurd (true≢false (sym (ap is_lt below) ∙ none_below first))
      | Equal ↦ λ tied. not_below_none other
      | Greater ↦ λ above. refl
    ] refl
next_from (byte ∷ bytes) [] after = cc
next_from (byte ∷ bytes) (first ∷ other) after =
    elim (nat_cmp first byte) as (λ o. ordering_then o (by_bytes other bytes) ≡ Greater
    → not (is_lt (ordering_then o (by_bytes other (bytes ++ 0 ∷ [])))) ≡ true) [
      | Less ↦ λ after. cc
      | Equal ↦ λ after. next_from bytes other after
      | Greater ↦ λ after. refl
    ] after

-- from the second on is from the first on, where the second is
pub from_then : (one other third : List ℕ) → is_from one other ≡ true → is_from other third ≡ true
    → is_from one third ≡ true
from_then one other third from more =
    elim (by_bytes third one) as (λ o. by_bytes third one ≡ o → not (is_lt o) ≡ true) [
      | Less ↦ λ below. absurd (never below)
      | Equal ↦ λ tied. refl
      | Greater ↦ λ above. refl
    ] refl
  where
    never : by_bytes third one ≡ Less → ⊥
    never below =
        elim (by_bytes other one) as (λ o. by_bytes other one ≡ o → ⊥) [
          | Less ↦ λ is. not_from one other is from
          | Equal ↦ λ is. not_from other third
              (ap (by_bytes third) (exact_bytes other one is) ∙ below) more
          | Greater ↦ λ is. not_from other third
              (nat_list_cmp_total.trans third one other below
              (nat_list_cmp_total.antisymm one other ∙ ap ordering_reverse is)) more
        ] refl

-- what is from some bytes on, and others, comes after them
pub after_others : (bytes other : List ℕ) → is_from bytes other ≡ true → (other ≡ bytes → ⊥)
    → by_bytes other bytes ≡ Greater
after_others bytes other from apart =
    elim (by_bytes other bytes) as (λ o. by_bytes other bytes ≡ o → o ≡ Greater) [
      | Less ↦ λ below. absurd (not_from bytes other below from)
      | Equal ↦ λ tied. absurd (apart (exact_bytes other bytes tied))
      | Greater ↦ λ above. refl
    ] refl

-- what is found first of the results of a function
pub find-map : {X Y : Type 0} (f : X → Y) (p : Y → Bool) (xs : List X)
    → find p (map f xs) ≡ option_map f (find (λ x. p (f x)) xs)
find-map f p [] = refl
find-map f p (x ∷ xs) =
    elim (p (f x)) as (λ b. cond b (Some (f x)) (find p (map f xs))
    ≡ option_map f (cond b (Some x) (find (λ x. p (f x)) xs))) [
      | true ↦ refl
      | false ↦ find-map f p xs
    ]

-- ---- a walk over items by their keys

-- bytes are below themselves with a byte more
below_longer : (bytes : List ℕ) → by_bytes bytes (bytes ++ 0 ∷ []) ≡ Less
below_longer bytes =
    nat_list_cmp_total.antisymm bytes (bytes ++ 0 ∷ []) ∙ ap ordering_reverse (longer_after bytes)

module _ {X : Type 0} (key : X → List ℕ) where
  -- the first of some items whose key is some bytes or comes after them
  abbrev pub item_from : List ℕ → List X → Option X
  item_from from items = find (λ item. is_from from (key item)) items

  -- the bytes from which a walk goes on that has read these items
  abbrev pub behind_all : List X → List ℕ
  behind_all [] = []
  behind_all (item ∷ []) = key item ++ 0 ∷ []
  behind_all (item ∷ next ∷ more) = behind_all (next ∷ more)

  -- what is below the keys of some items is below the bytes after them
  below_after : (bytes : List ℕ) (first : X) (front rest : List X)
      → AllByRecursion (λ other. by_bytes bytes other ≡ Less) (map key (first ∷ front ++ rest))
      → by_bytes bytes (behind_all (first ∷ front)) ≡ Less
  below_after bytes first [] rest below =
      nat_list_cmp_total.trans bytes (key first) (key first ++ 0 ∷ []) below.0
      (below_longer (key first))
  below_after bytes first (next ∷ front) rest below = below_after bytes next front rest below.1

  -- what is below bytes is not found from them on
  not_found : (from : List ℕ) (item : X) (others : List X) → by_bytes (key item) from ≡ Less
      → item_from from (item ∷ others) ≡ item_from from others
  not_found from item others below =
      ap (λ o. cond (not (is_lt o)) (Some item) (item_from from others)) below

  -- what is not below is found first
  found_first : (from : List ℕ) (item : X) (others : List X) → is_from from (key item) ≡ true
      → item_from from (item ∷ others) ≡ Some item
  found_first from item others from_there =
      ap (λ b. cond b (Some item) (item_from from others)) from_there

  -- Where the keys rise, the first from the bytes after some of them on is the next.
  pub walk_items : (front rest : List X) → IsStrictlySortedBy by_bytes (map key (front ++ rest))
      → item_from (behind_all front) (front ++ rest) ≡ slice_get rest 0
  unfolding IsStrictlySortedBy
  walk_items [] [] rise = refl
  walk_items [] (item ∷ rest) rise = found_first [] item rest (not_below_none (key item))
  walk_items (first ∷ []) [] rise =
      not_found (key first ++ 0 ∷ []) first [] (below_longer (key first))
  walk_items (first ∷ []) (item ∷ rest) rise =
      not_found (key first ++ 0 ∷ []) first (item ∷ rest) (below_longer (key first))
      ∙ found_first (key first ++ 0 ∷ []) item rest
      (next_from (key first) (key item)
      (nat_list_cmp_total.antisymm (key item) (key first) ∙ ap ordering_reverse rise.0.0))
  walk_items (first ∷ next ∷ more) rest rise =
      not_found (behind_all (next ∷ more)) first (next ∷ more ++ rest)
      (below_after (key first) next more rest rise.0)
      ∙ walk_items (next ∷ more) rest rise.1

  -- the item that has the bytes as its key is the first from them on
  pub walk_to : (item : X) (front rest : List X)
      → IsStrictlySortedBy by_bytes (map key (front ++ item ∷ rest))
      → item_from (key item) (front ++ item ∷ rest) ≡ Some item
  unfolding IsStrictlySortedBy
  walk_to item [] rest rise = found_first (key item) item rest (same_from (key item))
  walk_to item (first ∷ front) rest rise =
      not_found (key item) first (front ++ item ∷ rest)
      (at_item (λ other. by_bytes (key first) other ≡ Less) front rise.0)
      ∙ walk_to item front rest rise.1
    where
      at_item : (P : List ℕ → Type 0) (front : List X)
          → AllByRecursion P (map key (front ++ item ∷ rest)) → P (key item)
      at_item P [] all = all.0
      at_item P (other ∷ front) all = at_item P front all.1

-- ---- a walk over disputes

-- the bytes from which a walk goes on that has read these disputes
abbrev pub bytes_after : List Disputed → List ℕ
bytes_after = behind_all (λ (dispute : Disputed). dispute.identity)

-- the identities of disputes
abbrev pub identities_of : List Disputed → List (List ℕ)
identities_of disputes = map (λ (dispute : Disputed). dispute.identity) disputes

-- Where the identities of disputes rise, the first from the bytes after some of them on is the next.
pub walk_on : (front rest : List Disputed) → IsStrictlySortedBy by_bytes (identities_of (front ++ rest))
    → dispute_from (bytes_after front) (front ++ rest) ≡ slice_get rest 0
walk_on front rest rise = walk_items (λ (dispute : Disputed). dispute.identity) front rest rise

-- The identities of the disputes of any books rise.
pub disputes_rise : (naming : Naming) (rulings : Rulings) (held : Records)
    → IsStrictlySortedBy by_bytes (identities_of (disputes_in naming rulings held))
disputes_rise naming rulings held =
    let ids : List (List ℕ) = filter (is_in_dispute naming rulings held) (identities rulings held) in
    subst (IsStrictlySortedBy by_bytes)
    (sym (map-map (λ (dispute : Disputed). dispute.identity) (dispute_at naming rulings held) ids
    ∙ map-id ids))
    (IsStrictlySortedBy-filter by_bytes (is_in_dispute naming rulings held)
    (identities rulings held)
    (members_rise nat_list_cmp_total
    (set_of by_bytes (map (identity_by rulings) (members held)))))
