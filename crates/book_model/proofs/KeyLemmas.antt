-- Elements by their keys: keys that join others one after another, and what is summed at each key.
use Rattle.std.proofs.Common.{◌≡◌, ◌∙◌, ℕ, List, [], ◌∷◌, ◌++◌, refl, sym, ap, Bool, true, cond}
use Rattle.std.proofs.Common.{◌||◌, Ordering, append-nil, append_assoc, arith, filter, fold, length}
use Rattle.std.proofs.Common.{map, sum_by}
use Rattle.std.proofs.Math.Bool.{or-true}
use Rattle.std.specs.BTreeSet.{insert_key}
use Rattle.std.specs.FinMap as finite
use Rattle.book_model.proofs.Std.{IsDistinct, IsEquivalence, IsTotalOrder, length-filter, list_any}
use Rattle.book_model.proofs.Std.{sum_by-cons, sum_by_push}
use Rattle.book_model.specs.Words.{members, set_of}
use Rattle.book_model.proofs.ListLemmas.{count_by-distinct}
use Rattle.book_model.proofs.SetLemmas.{members-empty, members-with, set_of-alike}
use Rattle.book_model.proofs.SumLemmas.{sum_by-exchange}
use Rattle.book_model.proofs.SumsAlike.{SumsAlike, sum_by-filter}

-- keys in their order, with those of some elements, each in its place
abbrev pub joined : {K X : Type 0} → (K → K → Ordering) → (X → K) → List K → List X → List K
joined R key keys xs = fold (λ all x. insert_key R all (key x)) keys xs

module _ {K : Type 0} {R : K → K → Ordering} (o : IsTotalOrder R) (exact : finite.IsAntisymmetric R)
  where
    -- one more key joins the others in its place
    members-push : (keys : List K) (last : K) → members (set_of R (keys ++ last ∷ []))
        ≡ insert_key R (members (set_of R keys)) last
    members-push keys last =
        let alike : SumsAlike (keys ++ last ∷ []) (last ∷ keys) = record {
          sums = λ f.
              let behind = sum_by_push f keys last in
              let front = sum_by-cons f last keys in
              omega arith;
        } in
        ap members (set_of-alike o exact alike) ∙ members-with o (set_of R keys) last

    -- so do those of elements
    joined_members : {X : Type 0} (key : X → K) (keys : List K) (xs : List X)
        → joined R key (members (set_of R keys)) xs ≡ members (set_of R (keys ++ map key xs))
    joined_members key keys [] = ap (λ all. members (set_of R all)) (sym (append-nil keys))
    joined_members key keys (x ∷ xs) =
        ap (λ more. joined R key more xs) (sym (members-push keys (key x)))
        ∙ joined_members key (keys ++ key x ∷ []) xs
        ∙ ap (λ all. members (set_of R all)) (append_assoc keys (key x ∷ []) (map key xs))

    -- and where there were none, these are the keys, each once and in order
    pub joined_all : {X : Type 0} (key : X → K) (none all : List K) (xs : List X) → none ≡ []
        → all ≡ joined R key none xs → all ≡ members (set_of R (map key xs))
    joined_all key none all xs empty are =
        are ∙ ap (λ keys. joined R key keys xs) (empty ∙ sym (members-empty R))
        ∙ joined_members key [] xs

-- a number for each element of a list of one
sum_by-one : {X : Type 0} (n : ℕ) (xs : List X) → length xs ≡ 1 → sum_by (λ _. n) xs ≡ n
sum_by-one n [] e = absurd (omega arith)
sum_by-one n (x ∷ []) e = omega arith
sum_by-one n (x ∷ y ∷ xs) e = absurd (omega arith)

module _ {X K : Type 0} {eq : K → K → Bool} (laws : IsEquivalence eq) (ks : List K)
    (apart : IsDistinct eq ks) (key : X → K) (f : X → ℕ) where
  -- over a list that has no key twice, and has the element's key, what the element counts is summed
  -- once
  at_its_key : (x : X) → list_any (eq (key x)) ks ≡ true
      → sum_by (λ k. cond (eq (key x) k) (f x) 0) ks ≡ f x
  at_its_key x there =
      sym (sum_by-filter (λ _. f x) (eq (key x)) ks)
      ∙ sum_by-one (f x) (filter (eq (key x)) ks)
      (length-filter (eq (key x)) ks ∙ count_by-distinct laws (key x) ks apart
      ∙ ap (λ b. cond b 1 0) there)

  -- the sums of several elements, each at its key
  at_their_keys : (xs : List X)
      → ((x : X) → list_any (λ y. eq (key x) (key y)) xs ≡ true → list_any (eq (key x)) ks ≡ true)
      → sum_by (λ x. sum_by (λ k. cond (eq (key x) k) (f x) 0) ks) xs ≡ sum_by f xs
  at_their_keys [] there = refl
  at_their_keys (x ∷ xs) there =
      let own =
      at_its_key x
      (there x (ap (λ b. b || list_any (λ y. eq (key x) (key y)) xs) (laws.refl (key x)))) in
      let rest =
      at_their_keys xs
      (λ y among.
      there y (ap (λ b. eq (key y) (key x) || b) among ∙ or-true (eq (key y) (key x)))) in
      let all = sum_by-cons (λ x. sum_by (λ k. cond (eq (key x) k) (f x) 0) ks) x xs in
      let numbers = sum_by-cons f x xs in
      omega arith

  -- the sums of elements at each key are together the sum of all elements
  pub sum_by-keys : (xs : List X)
      → ((x : X) → list_any (λ y. eq (key x) (key y)) xs ≡ true → list_any (eq (key x)) ks ≡ true)
      → sum_by (λ k. sum_by f (filter (λ x. eq (key x) k) xs)) ks ≡ sum_by f xs
  sum_by-keys xs there =
      let share : K → X → ℕ = λ k x. cond (eq (key x) k) (f x) 0 in
      (λ i. sum_by (λ k. sum_by-filter f (λ x. eq (key x) k) xs i) ks)
      ∙ sum_by-exchange share ks xs
      ∙ at_their_keys xs there
