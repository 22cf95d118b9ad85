-- Values that are stored under numbers that count up, as closes and choices are.
use Rattle.std.proofs.Common.{◌≡◌, ℕ, suc, ◌+◌, ◌<◌, ◌≤◌, List, [], ◌∷◌, ◌++◌, map, length, refl}
use Rattle.std.proofs.Common.{ap, ◌∙◌, subst, true, false, Bool, cond, ◌&&◌, Option, Some, None, T}
use Rattle.std.proofs.Common.{arith, zero, ◌-◌, unwrap_or, slice_get, is_lt, nat_cmp, is_eq}
use Rattle.std.proofs.Common.{Ordering, Less, Equal, Greater}
use Rattle.std.specs.Cmp.{nat_cmp_is}
use Rattle.std.specs.FinMap.{find, from_entries_push}
use Rattle.std.specs.FinMap.Entries.{below_all}
use Rattle.book_model.proofs.Std.{nat_cmp_total, entries, insert, values, from_entries}
use Rattle.book_model.proofs.Std.{nat_cmp-IsAntisymmetric, is_sorted, last_or, nat_tests}
use Rattle.book_model.proofs.Std.{slice_get_past}
use Rattle.book_model.proofs.Lemmas.{entries-sorted}
use Rattle.table_model.specs.Words.{under_numbers}
use Rattle.table_model.proofs.MoveLemmas.{not_number}

-- what is below compares as less
pub is_less : (order : Ordering) → T (is_lt order) → order ≡ Less
is_less Less less = refl
is_less Equal less = absurd less
is_less Greater less = absurd less

-- two tests that both hold
pub both_hold : (a b : Bool) → T a → T b → T (a && b)
both_hold true b one other = other
both_hold false b one other = one

-- and each of two that hold together
pub one_holds : (a b : Bool) → T (a && b) → T a
one_holds true b both = tt
one_holds false b both = absurd both

pub other_holds : (a b : Bool) → T (a && b) → T b
other_holds true b both = both
other_holds false b both = absurd both

module _ {V : Type 0} where
  -- the numbers rise,
  above : (m n : ℕ) (vs : List V) → m < n → T (below_all nat_cmp m (under_numbers n vs))
  above m n [] less = tt
  above m n (v ∷ vs) less =
      let first : Less ≡ nat_cmp m n = nat_cmp_is m n Less less in
      subst (λ r. T (is_lt r && below_all nat_cmp m (under_numbers (suc n) vs))) first
      (above m (suc n) vs (omega arith))

  rise : (n : ℕ) (vs : List V) → T (is_sorted nat_cmp (under_numbers n vs))
  rise n [] = tt
  rise n (v ∷ vs) =
      both_hold (below_all nat_cmp n (under_numbers (suc n) vs))
      (is_sorted nat_cmp (under_numbers (suc n) vs))
      (above n (suc n) vs (omega arith)) (rise (suc n) vs)

  -- so a map keeps the values in this order
  pub entries-numbers : (vs : List V)
      → entries (from_entries {R = nat_cmp} (under_numbers 1 vs)) ≡ under_numbers 1 vs
  entries-numbers vs =
      entries-sorted nat_cmp_total nat_cmp-IsAntisymmetric (under_numbers 1 vs) (rise 1 vs)

  pub values-numbers : (vs : List V) → values (from_entries {R = nat_cmp} (under_numbers 1 vs)) ≡ vs
  values-numbers vs = ap (map (λ (e : ℕ × V). e.1)) (entries-numbers vs) ∙ back 1 vs
    where
      back : (n : ℕ) (vs : List V) → map (λ (e : ℕ × V). e.1) (under_numbers n vs) ≡ vs
      back n [] = refl
      back n (v ∷ vs) = ap (λ vs. v ∷ vs) (back (suc n) vs)

  -- each value is found under its number,
  pub find-numbers : (n number k : ℕ) (vs : List V) → number ≡ n + k
      → find nat_cmp number (under_numbers n vs) ≡ slice_get vs k
  find-numbers n number k [] is = refl
  find-numbers n number zero (v ∷ vs) is =
      ap (λ b. cond b (Some v) (find nat_cmp number (under_numbers (suc n) vs)))
      (tied number n (omega (arith, is)))
    where
      tied : (a b : ℕ) → a ≡ b → is_eq (nat_cmp a b) ≡ true
      tied a b same = grind (arith, nat_tests)
  find-numbers n number (suc k) (v ∷ vs) is =
      ap (λ b. cond b (Some v) (find nat_cmp number (under_numbers (suc n) vs)))
      (not_number number n (λ same. absurd (omega (arith, is, same))))
      ∙ find-numbers (suc n) number k vs (omega (arith, is))

  -- so a number after all of them is free
  pub number_free : (n number : ℕ) (vs : List V) → n + length vs ≤ number
      → find nat_cmp number (under_numbers n vs) ≡ None
  number_free n number vs behind =
      find-numbers n number (number - n) vs (omega (arith, behind))
      ∙ slice_get_past vs (number - n) (omega (arith, behind))

  -- one more value comes after the others,
  pub one_more : (n : ℕ) (vs : List V) (v : V) (number : ℕ) → number ≡ n + length vs
      → under_numbers n (vs ++ v ∷ []) ≡ under_numbers n vs ++ (number, v) ∷ []
  one_more n [] v number is =
      let same : n ≡ number = omega arith in
      ap {B = List (ℕ × V)} (λ k. (k, v) ∷ []) same
  one_more n (first ∷ vs) v number is =
      ap (λ es. (n, first) ∷ es) (one_more (suc n) vs v number (omega arith))

  -- and is put into the map under the next number
  pub next_number : (vs : List V) (v : V) (number : ℕ) → number ≡ 1 + length vs
      → from_entries {R = nat_cmp} (under_numbers 1 (vs ++ v ∷ []))
      ≡ insert (from_entries (under_numbers 1 vs)) number v
  next_number vs v number is =
      let behind : 1 + length vs ≤ number = omega arith in
      ap from_entries (one_more 1 vs v number is)
      ∙ from_entries_push nat_cmp_total nat_cmp-IsAntisymmetric (under_numbers 1 vs) number v
      (number_free 1 number vs behind)

  -- the last number is the count of the values before them and of themselves
  pub last_number : (n : ℕ) (was : Option ℕ) (vs : List V) → unwrap_or was 0 ≡ n
      → unwrap_or (last_or was (map (λ (e : ℕ × V). e.0) (under_numbers (suc n) vs))) 0
      ≡ n + length vs
  last_number n was [] is = is ∙ omega arith
  last_number n was (v ∷ vs) is = last_number (suc n) (Some (suc n)) vs refl ∙ omega arith
