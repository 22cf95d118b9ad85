-- Sets of records, by what they have.
use Rattle.std.proofs.Common.{◌≡◌, ℕ, List, ◌∷◌, refl, sym, ap, ◌∙◌, true, false, true≢false, Bool}
use Rattle.std.proofs.Common.{not, ◌||◌, ◌&&◌}
use Rattle.std.proofs.Math.Bool.{or-true}
use Rattle.book_model.proofs.Std.{list_any, eq_by_cmp, nat_list_cmp_total, eq_by_cmp_equiv}
use Rattle.book_model.proofs.Std.{exact_bytes, tells_apart}
use Rattle.book_model.specs.Words.{Records, by_bytes, has, with, those}
use Rattle.book_model.proofs.SetLemmas.{has-with, has-those, same_set}

-- the records are one
abbrev pub is : List ℕ → List ℕ → Bool
is a b = eq_by_cmp by_bytes a b

-- a record is itself
pub is_itself : (bytes : List ℕ) → is bytes bytes ≡ true
is_itself bytes = (eq_by_cmp_equiv nat_list_cmp_total).refl bytes

-- the first record of a list is in it
pub is_first : (a : List ℕ) (rest : List (List ℕ)) → list_any (is a) (a ∷ rest) ≡ true
is_first a rest = ap (λ t. t || list_any (is a) rest) (is_itself a)

-- and the second
pub is_second : (a b : List ℕ) (rest : List (List ℕ)) → list_any (is b) (a ∷ b ∷ rest) ≡ true
is_second a b rest = ap (λ t. is b a || t) (is_first b rest) ∙ or-true (is b a)

-- sets that have the same records are one
pub same_records : (s t : Records) → ((bytes : List ℕ) → has s bytes ≡ has t bytes) → s ≡ t
same_records s t same = same_set nat_list_cmp_total exact_bytes s t same

pub has_with : (s : Records) (k bytes : List ℕ) → has (with s k) bytes ≡ (is bytes k || has s bytes)
has_with s k bytes = has-with nat_list_cmp_total s k bytes

pub has_those : (p : List ℕ → Bool) (s : Records) (bytes : List ℕ)
    → has (those p s) bytes ≡ (p bytes && has s bytes)
has_those p s bytes = has-those nat_list_cmp_total exact_bytes p s bytes

-- where two tests hold, each does
pub first_of : (a b : Bool) → (a && b) ≡ true → a ≡ true
first_of true b both = refl
first_of false b both = both

pub second_of : (a b : Bool) → (a && b) ≡ true → b ≡ true
second_of true b both = both
second_of false b both = absurd (true≢false (sym both))

-- both of two tests, in either order
pub tests_swap : (a b : Bool) → (a && b) ≡ (b && a)
tests_swap true true = refl
tests_swap true false = refl
tests_swap false true = refl
tests_swap false false = refl

-- a test that is not passed fails
pub not_true : (a : Bool) → not a ≡ true → a ≡ false
not_true true is_not = absurd (true≢false (sym is_not))
not_true false is_not = refl

-- who is among those of a set is in it
pub in_those : (p : List ℕ → Bool) (s : Records) (bytes : List ℕ)
    → has (those p s) bytes ≡ true → has s bytes ≡ true
in_those p s bytes there =
    second_of (p bytes) (has s bytes) (sym (has_those p s bytes) ∙ there)

-- and passes the test
pub passes_those : (p : List ℕ → Bool) (s : Records) (bytes : List ℕ)
    → has (those p s) bytes ≡ true → p bytes ≡ true
passes_those p s bytes there =
    first_of (p bytes) (has s bytes) (sym (has_those p s bytes) ∙ there)

-- a record of a set with one more is that one, or in the set
pub one_or : {X : Type 0} (s : Records) (k bytes : List ℕ) → has (with s k) bytes ≡ true
    → (bytes ≡ k → X) → (has s bytes ≡ true → X) → X
one_or {X} s k bytes there one other =
    elim (is bytes k) as (λ t. is bytes k ≡ t → (t || has s bytes) ≡ true → X) [
      | true ↦ λ e both. one (tells_apart exact_bytes bytes k e)
      | false ↦ λ e both. other both
    ] refl (sym (has_with s k bytes) ∙ there)

-- tests in a row may change places
swap : (a b c : Bool) → (a && (b && c)) ≡ (b && (a && c))
swap true true c = refl
swap true false c = refl
swap false true c = refl
swap false false c = refl

pub those-those : (p q : List ℕ → Bool) (s : Records)
    → those p (those q s) ≡ those q (those p s)
those-those p q s = same_records (those p (those q s)) (those q (those p s)) (λ x.
    has_those p (those q s) x ∙ ap (λ b. p x && b) (has_those q s x)
    ∙ swap (p x) (q x) (has s x)
    ∙ sym (has_those q (those p s) x ∙ ap (λ b. q x && b) (has_those p s x)))
