-- Sets of records that are made from lists in any order.
use Rattle.std.proofs.Common.{◌≡◌, ℕ, List, ◌++◌, refl, sym, ap, ◌∙◌, true, false, true≢false, Bool}
use Rattle.std.proofs.Common.{not, ◌&&◌, ◌||◌, Option, filter, ℤ, filter_map, IsPermutation}
use Rattle.book_model.proofs.Std.{nat_list_cmp_total, list_any-append, sum_by-IsPermutation}
use Rattle.book_model.proofs.Std.{exact_bytes}
use Rattle.book_model.specs.Words.{is_dated_after, Period, period_by, Records, by_bytes, set_of}
use Rattle.book_model.specs.Words.{members, has, those, without, AreDatedThrough}
use Rattle.book_model.proofs.Lemmas.{is, same_records, has_those, has-set_of, members-those}
use Rattle.book_model.proofs.Lemmas.{set_of-alike, SumsAlike, filter_map-alike}
use Rattle.table_model.specs.BookIn.{union_of}
use Rattle.table_model.specs.Words.{charged_before}
use Rattle.std.specs.FinMap as fin
pub use Rattle.table_model.proofs.RowsWhere.{among-filter, one_passes, some_passes}

-- lists that are equal but for their order have equal sums
pub permuted-alike : {X : Type 0} (xs ys : List X) → IsPermutation xs ys → SumsAlike xs ys
permuted-alike xs ys same = record { sums = λ f. sym (sum_by-IsPermutation f xs ys same) }

-- the results for such lists make one set
pub set-permuted : {X : Type 0} (give : X → Option (List ℕ)) (xs ys : List X)
    → IsPermutation xs ys
    → set_of by_bytes (filter_map give xs) ≡ set_of by_bytes (filter_map give ys)
set-permuted give xs ys same =
    set_of-alike nat_list_cmp_total exact_bytes
    (filter_map-alike give (permuted-alike xs ys same))

-- a set is made from its members
pub set_of-members : (s : Records) → set_of by_bytes (members s) ≡ s
set_of-members s = same_records (set_of by_bytes (members s)) s (λ q.
    has-set_of nat_list_cmp_total (members s) q ∙ sym (fin.contains_key-keys s q))

-- and the set of those that pass a test from the members that do
pub set_of-filter : (p : List ℕ → Bool) (s : Records)
    → set_of by_bytes (filter p (members s)) ≡ those p s
set_of-filter p s =
    ap (set_of by_bytes) (sym (members-those nat_list_cmp_total exact_bytes p s))
    ∙ set_of-members (those p s)

-- what is in one of two sets
has_joined : (one other : Records) (q : List ℕ)
    → has (union_of one other) q ≡ (has one q || has other q)
has_joined one other q =
    has-set_of nat_list_cmp_total (members one ++ members other) q
    ∙ list_any-append (is q) (members one) (members other)
    ∙ (λ i. sym (fin.contains_key-keys one q) i || sym (fin.contains_key-keys other q) i)

-- what was charged before a period is read back from what it was made of
pub before_back : (last : Option ℤ) (before now : Records) → AreDatedThrough last before
    → charged_before (period_by last before now) now ≡ before
before_back last before now dated =
    let period : Period = period_by last before now in
    let uncounted : Records = without now period.counted in
    let fresh : Records = without now before in
    let late : List ℕ → Bool = is_dated_after last in
    same_records (charged_before period now) before (λ q.
    has_joined (without uncounted period.added) period.taken q
    ∙ ap (λ b. b || has period.taken q)
    (has_those (λ k. not (has period.added k)) uncounted q
    ∙ (λ i. not (has_those (λ k. not (late k)) fresh q i)
    && has_those (λ k. not (has period.counted k)) now q i)
    ∙ (λ i. not (not (late q) && has_those (λ k. not (has before k)) now q i)
    && (not (has_those late now q i) && has now q)))
    ∙ ap (λ b. (not (not (late q) && (not (has before q) && has now q))
    && (not (late q && has now q) && has now q)) || b)
    (has_those (λ k. not (has now k)) before q)
    ∙ turn (has before q) (has now q) (late q) (dated q))
  where
    turn : (was is_now is_late : Bool) → (was ≡ true → is_late ≡ false)
        → ((not (not is_late && (not was && is_now)) && (not (is_late && is_now) && is_now))
        || (not is_now && was)) ≡ was
    turn true is_now true old = absurd (true≢false (old refl))
    turn true true false old = refl
    turn true false false old = refl
    turn false true true old = refl
    turn false true false old = refl
    turn false false true old = refl
    turn false false false old = refl
