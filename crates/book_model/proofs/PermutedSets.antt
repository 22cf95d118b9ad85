-- Sets of lists that have nothing twice: their members are the list's elements, in another order.
use Rattle.std.proofs.Common.{◌≡◌, ℕ, ◌+◌, ◌<◌, zero, suc, List, [], ◌∷◌, length, get_or, refl, sym}
use Rattle.std.proofs.Common.{ap, ◌∙◌, subst, true, false, true≢false, Bool, cond, ◌||◌, Option}
use Rattle.std.proofs.Common.{Some, None, map, arith, filter, filter_map, Contains, IsPermutation}
use Rattle.std.proofs.Common.{IsSorted, is_eq, is_lt, Ordering, Less, Equal, Greater}
use Rattle.std.specs.BTreeSet.{insert_key}
use Rattle.std.proofs.lemmas.List.Sorted.{IsPermutation-cons, IsPermutation-middle}
use Rattle.std.proofs.lemmas.List.Sorted.{Contains-permutation}
use Rattle.std.proofs.lemmas.Map.Keys.{IsDistinct-cons, IsDistinct-IsPermutation}
use Rattle.std.proofs.lemmas.Map.Keys.{sorted_from_all_adjacent}
use Rattle.book_model.proofs.Std.{IsTotalOrder, list_any, cons_option, AllByRecursion, IsDistinct}
use Rattle.book_model.proofs.Std.{IsStrictlySortedBy, eq_by_cmp, match_ordering, ordering_reverse}
use Rattle.book_model.proofs.Std.{eq_by_cmp_equiv, All-from_recursion, All-contains}
use Rattle.book_model.proofs.Std.{Contains-append_right, list_any_none, IsPermutation-refl}
use Rattle.book_model.proofs.Std.{IsPermutation-sym, IsPermutation-trans, IsDistinct-head}
use Rattle.book_model.proofs.Std.{IsDistinct-tail, sorted_head, sorted_tail}
use Rattle.book_model.specs.Words.{set_of, members}
use Rattle.book_model.proofs.SetLemmas.{members-empty, members-with, members_rise, any_tied-members}
use Rattle.std.proofs.lemmas.Map.Keys as keys

-- no element ties with one after it
abbrev pub Apart : {X : Type 0} → (X → X → Bool) → List X → Type 0
Apart e [] = Unit {0}
Apart e (x ∷ xs) = (list_any (e x) xs ≡ false) × Apart e xs

-- distinct elements are apart
pub apart_from_distinct : {X : Type 0} (e : X → X → Bool) (xs : List X) → IsDistinct e xs
    → Apart e xs
apart_from_distinct e [] distinct = tt
apart_from_distinct e (x ∷ xs) distinct = (
  list_any_none (e x) xs (All-from_recursion _ xs (IsDistinct-head e x xs distinct)),
  apart_from_distinct e xs (IsDistinct-tail e x xs distinct),
)

module _ {X K : Type 0} (f : X → K) (p : X → Bool) where
  -- what holds of what a function gives of all elements holds of what it gives of some
  each-filter : (P : K → Type 0) (xs : List X) → AllByRecursion P (map f xs)
      → AllByRecursion P (map f (filter p xs))
  each-filter P [] all = tt
  each-filter P (x ∷ xs) all =
      let rest = each-filter P xs all.1 in
      elim (p x) as (λ b. AllByRecursion P (map f (cond b (x ∷ filter p xs) (filter p xs)))) [
        | true ↦ (all.0, rest)
        | false ↦ rest
      ]

  -- what a function keeps apart of all elements, it keeps apart of some
  pub IsDistinct-map_filter : (e : K → K → Bool) (xs : List X) → IsDistinct e (map f xs)
      → IsDistinct e (map f (filter p xs))
  IsDistinct-map_filter e [] distinct = distinct
  IsDistinct-map_filter e (x ∷ xs) distinct =
      let rest = IsDistinct-map_filter e xs (IsDistinct-tail e (f x) (map f xs) distinct) in
      let differs =
      each-filter (λ k. e (f x) k ≡ false) xs (IsDistinct-head e (f x) (map f xs) distinct) in
      elim (p x) as (λ b. IsDistinct e (map f (cond b (x ∷ filter p xs) (filter p xs)))) [
        | true ↦ IsDistinct-cons e (f x) (map f (filter p xs)) differs rest
        | false ↦ rest
      ]

module _ {K Y : Type 0} (R : K → K → Ordering) (give : K → Option Y) where
  -- the same, and something more or nothing at the head of both
  cons_permuted : (first : Option Y) (xs ys : List Y) → IsPermutation xs ys
      → IsPermutation (cons_option first xs) (cons_option first ys)
  cons_permuted None xs ys same = same
  cons_permuted (Some y) xs ys same = IsPermutation-cons y xs ys same

  -- the first two may change places
  cons_swapped : (first second : Option Y) (xs : List Y)
      → IsPermutation (cons_option first (cons_option second xs))
      (cons_option second (cons_option first xs))
  cons_swapped None second xs = IsPermutation-refl (cons_option second xs)
  cons_swapped (Some y) None xs = IsPermutation-refl (y ∷ xs)
  cons_swapped (Some y) (Some z) xs = IsPermutation-middle (y ∷ []) z xs

  -- what is given of an element in its place is among what is given of the others
  pub insert_given : (k : K) (xs : List K) → list_any (eq_by_cmp R k) xs ≡ false
      → IsPermutation (filter_map give (insert_key R xs k)) (filter_map give (k ∷ xs))
  insert_given k [] new = IsPermutation-refl (filter_map give (k ∷ []))
  insert_given k (x ∷ xs) new =
      let all : List Y = filter_map give (k ∷ x ∷ xs) in
      let others : List Y = filter_map give xs in
      elim (R k x) as (λ r. (is_eq r || list_any (eq_by_cmp R k) xs) ≡ false
      → IsPermutation (filter_map give
      (match_ordering r (k ∷ x ∷ xs) (x ∷ xs) (x ∷ insert_key R xs k))) all) [
        | Less ↦ λ new. IsPermutation-refl all
        | Equal ↦ λ new. absurd (true≢false new)
        | Greater ↦ λ new.
            IsPermutation-trans (cons_option (give x) (filter_map give (insert_key R xs k)))
            (cons_option (give x) (cons_option (give k) others)) all
            (cons_permuted (give x) (filter_map give (insert_key R xs k))
            (cons_option (give k) others) (insert_given k xs new))
            (cons_swapped (give x) (give k) others)
      ] new

  -- what is given of a set's members is what is given of its list, in another order
  pub given_permuted : IsTotalOrder R → (ks : List K) → Apart (eq_by_cmp R) ks
      → IsPermutation (filter_map give (members (set_of R ks))) (filter_map give ks)
  given_permuted o [] apart =
      subst (λ ms. IsPermutation (filter_map give ms) []) (sym (members-empty R))
      (IsPermutation-refl [])
  given_permuted o (k ∷ ks) apart =
      let others : List K = members (set_of R ks) in
      subst (λ ms. IsPermutation (filter_map give ms) (filter_map give (k ∷ ks)))
      (sym (members-with o (set_of R ks) k))
      (IsPermutation-trans (filter_map give (insert_key R others k))
      (filter_map give (k ∷ others)) (filter_map give (k ∷ ks))
      (insert_given k others (any_tied-members o ks k ∙ apart.0))
      (cons_permuted (give k) (filter_map give others) (filter_map give ks)
      (given_permuted o ks apart.1)))

-- a function that gives each element gives the list
given_itself : {K : Type 0} (ks : List K) → filter_map Some ks ≡ ks
given_itself [] = refl
given_itself (k ∷ ks) = ap (λ rest. k ∷ rest) (given_itself ks)

-- the set of a list with elements that are apart has them, in another order
pub members_permuted : {K : Type 0} (R : K → K → Ordering) → IsTotalOrder R → (ks : List K)
    → Apart (eq_by_cmp R) ks → IsPermutation (members (set_of R ks)) ks
members_permuted {K} R o ks apart =
    let ms : List K = members (set_of R ks) in
    subst (λ xs. IsPermutation xs ks) (given_itself ms)
    (subst (IsPermutation (filter_map Some ms)) (given_itself ks)
    (given_permuted R Some o ks apart))

-- an element of a list is the first one, or among the others
pub first_or : {X P : Type 0} (x : X) (xs : List X) (z : X) → Contains (x ∷ xs) z
    → (x ≡ z → P) → (Contains xs z → P) → P
first_or {X} {P} x xs z among first other = by_place among.0 among.1 among.2
  where
    by_place : (k : ℕ) → k < length (x ∷ xs) → get_or (x ∷ xs) k z ≡ z → P
    by_place zero within is = first is
    by_place (suc k) within is = other (k, omega arith, is)

-- the first one is in its list
pub has_first : {X : Type 0} (x : X) (xs : List X) → Contains (x ∷ xs) x
has_first x xs = (0, omega arith, refl)

-- an empty list has no element
pub has_none : {X P : Type 0} (z : X) → Contains [] z → P
has_none z among = let within = among.1 in absurd (omega arith)

module _ {K : Type 0} {R : K → K → Ordering} (o : IsTotalOrder R) where
  -- no two elements are each below the other
  never_both : {P : Type 0} (a b : K) → R a b ≡ Less → R b a ≡ Less → P
  never_both {P} a b one two =
      let wrong : Less ≡ Greater = sym one ∙ o.antisymm a b ∙ ap ordering_reverse two in cc

  -- an element of a list that strictly rises is not among those after it
  not_again : {P : Type 0} (x : K) (xs : List K) → IsStrictlySortedBy R (x ∷ xs) → (z : K)
      → x ≡ z → Contains xs z → P
  not_again x xs rising z is among =
      let above = All-contains (λ y. R x y ≡ Less) xs z
      (All-from_recursion _ xs (sorted_head R x xs rising)) among in
      let itself = ap (R x) is ∙ above in
      never_both x x itself itself

  -- two lists that strictly rise and have the same elements are one
  pub same_rising : (xs ys : List K) → IsStrictlySortedBy R xs → IsStrictlySortedBy R ys
      → ((z : K) → Contains xs z → Contains ys z) → ((z : K) → Contains ys z → Contains xs z)
      → xs ≡ ys
  same_rising [] [] one two there back = refl
  same_rising [] (y ∷ ys) one two there back = has_none y (back y (has_first y ys))
  same_rising (x ∷ xs) [] one two there back = has_none x (there x (has_first x xs))
  same_rising (x ∷ xs) (y ∷ ys) one two there back =
      let above : (a : K) (as_far : List K) → IsStrictlySortedBy R (a ∷ as_far) → (z : K)
      → Contains as_far z → R a z ≡ Less =
      λ a others rising z among. All-contains (λ b. R a b ≡ Less) others z
      (All-from_recursion _ others (sorted_head R a others rising)) among in
      let first : x ≡ y =
      first_or y ys x (there x (has_first x xs)) (λ is. sym is)
      (λ later. first_or x xs y (back y (has_first y ys)) (λ is. is)
      (λ too. never_both x y (above x xs one y too) (above y ys two x later))) in
      let rest =
      same_rising xs ys (sorted_tail R x xs one) (sorted_tail R y ys two)
      (λ z among.
      first_or y ys z (there z (Contains-append_right (x ∷ []) xs z among))
      (λ is. not_again x xs one z (first ∙ is) among) (λ later. later))
      (λ z among.
      first_or x xs z (back z (Contains-append_right (y ∷ []) ys z among))
      (λ is. not_again y ys two z (sym first ∙ is) among) (λ later. later)) in
      λ i. first i ∷ rest i

  -- a list that strictly rises is the only order of its elements that does
  pub only_rising : (xs ys : List K) → IsStrictlySortedBy R xs → IsStrictlySortedBy R ys
      → IsPermutation xs ys → xs ≡ ys
  only_rising xs ys one two same =
      same_rising xs ys one two (λ z. Contains-permutation xs ys z same)
      (λ z. Contains-permutation ys xs z (IsPermutation-sym xs ys same))

  -- two elements that do not tie, in order, strictly rise
  strictly : (a b : K) → is_lt (R b a) ≡ false → eq_by_cmp R a b ≡ false → R a b ≡ Less
  strictly a b in_order differ =
      elim (R a b) as (λ r. R a b ≡ r → is_eq r ≡ false → r ≡ Less) [
        | Less ↦ λ is differ. refl
        | Equal ↦ λ is differ. absurd (true≢false differ)
        | Greater ↦ λ is differ.
            let below = o.antisymm b a ∙ ap ordering_reverse is in
            absurd (true≢false (sym (ap is_lt below) ∙ in_order))
      ] refl differ

  -- distinct elements that are in order strictly rise
  pub rising_from_sorted : (xs : List K) → IsDistinct (eq_by_cmp R) xs → IsSorted R xs
      → IsStrictlySortedBy R xs
  rising_from_sorted [] distinct in_order = subst (IsStrictlySortedBy R) (members-empty R)
      (members_rise o (set_of R []))
  rising_from_sorted (x ∷ xs) distinct in_order =
      sorted_from_all_adjacent o (x ∷ xs) x (λ k within.
      strictly (get_or (x ∷ xs) k x) (get_or (x ∷ xs) (k + 1) x)
      (in_order k x (omega arith) within)
      (keys.apart_from_distinct (eq_by_cmp R) (x ∷ xs) k (k + 1) x distinct (omega arith) within))

  -- distinct elements stay distinct when they change places
  pub distinct_permuted : (xs ys : List K) → IsPermutation xs ys → IsDistinct (eq_by_cmp R) xs
      → IsDistinct (eq_by_cmp R) ys
  distinct_permuted xs ys same distinct =
      IsDistinct-IsPermutation (eq_by_cmp R) (eq_by_cmp_equiv o).symm xs ys same distinct

  -- the set of a list with nothing twice has its elements, in another order
  pub members_of_distinct : (ks : List K) → IsDistinct (eq_by_cmp R) ks
      → IsPermutation (members (set_of R ks)) ks
  members_of_distinct ks distinct =
      members_permuted R o ks (apart_from_distinct (eq_by_cmp R) ks distinct)

  -- so a list with nothing twice, put in order, has the members of its set
  pub sorted_members : (ks sorted : List K) → IsDistinct (eq_by_cmp R) ks → IsPermutation ks sorted
      → IsStrictlySortedBy R sorted → sorted ≡ members (set_of R ks)
  sorted_members ks sorted distinct same rising =
      let all : List K = members (set_of R ks) in
      sym (only_rising all sorted (members_rise o (set_of R ks)) rising
      (IsPermutation-trans all ks sorted (members_of_distinct ks distinct) same))

  -- and another order of it has the same members
  pub members_reordered : (ks js : List K) → IsPermutation ks js → IsDistinct (eq_by_cmp R) js
      → members (set_of R ks) ≡ members (set_of R js)
  members_reordered ks js same distinct =
      let back = IsPermutation-sym ks js same in
      let own = distinct_permuted js ks back distinct in
      let all : List K = members (set_of R ks) in
      sorted_members js all distinct
      (IsPermutation-trans js ks all back (IsPermutation-sym all ks (members_of_distinct ks own)))
      (members_rise o (set_of R ks))
