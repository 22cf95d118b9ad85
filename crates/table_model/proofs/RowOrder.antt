-- Rows in their order, and those among them that pass a test.
use Rattle.std.proofs.Common.{◌≡◌, List, [], ◌∷◌, refl, sym, ap, subst, true, false, Bool, cond}
use Rattle.std.proofs.Common.{◌&&◌, ◌||◌, Option, Some, None, filter, filter_map, IsPermutation}
use Rattle.book_model.proofs.Std.{IsTotalOrder, cons_option, list_any, IsStrictlySortedBy}
use Rattle.book_model.proofs.Std.{eq_by_cmp, nat_list_cmp_total, then_total, on_total}
use Rattle.book_model.proofs.Std.{IsStrictlySortedBy-filter, IsPermutation-sym}
use Rattle.book_model.proofs.Std.{IsDistinct-from_sorted}
use Rattle.book_model.specs.Words.{members, set_of}
use Rattle.book_model.proofs.Lemmas.{apart_from_distinct, given_permuted}
use Rattle.book_model.proofs.PermutedSets.{distinct_permuted, sorted_members}
use Rattle.table_model.specs.Words.{NamedRow, by_identity}

-- one of those that pass a test passes another if one passes both
pub list_any-filter : {X : Type 0} (p q : X → Bool) (xs : List X)
    → list_any p (filter q xs) ≡ list_any (λ x. q x && p x) xs
list_any-filter p q [] = refl
list_any-filter p q (x ∷ xs) =
    let rest = list_any-filter p q xs in
    elim (q x) as (λ b. list_any p (cond b (x ∷ filter q xs) (filter q xs))
    ≡ ((b && p x) || list_any (λ x. q x && p x) xs)) [
      | true ↦ ap (λ b. p x || b) rest
      | false ↦ rest
    ]

-- a filter as the results of a partial function
filter-given : {X : Type 0} (p : X → Bool) (xs : List X)
    → filter_map (λ x. cond (p x) (Some x) None) xs ≡ filter p xs
filter-given p [] = refl
filter-given {X} p (x ∷ xs) =
    let given : X → Option X = λ x. cond (p x) (Some x) None in
    elim (p x) as (λ b. cons_option (cond b (Some x) None) (filter_map given xs)
    ≡ cond b (x ∷ filter p xs) (filter p xs)) [
      | true ↦ ap (λ rest. x ∷ rest) (filter-given p xs)
      | false ↦ filter-given p xs
    ]

-- rows are in an order by identity, then name
pub by_identity_total : IsTotalOrder by_identity
by_identity_total =
    then_total (on_total (λ (row : NamedRow). row.1.identity) nat_list_cmp_total)
    (on_total (λ (row : NamedRow). row.0) nat_list_cmp_total)

-- rows in that order are the ordered rows of any list that has the same rows,
pub rows_in_order : (rows all : List NamedRow) → IsPermutation rows all
    → IsStrictlySortedBy by_identity rows → rows ≡ members (set_of by_identity all)
rows_in_order rows all same rising =
    let own = IsDistinct-from_sorted by_identity rows rising in
    sorted_members by_identity_total all rows
    (distinct_permuted by_identity_total rows all same own) (IsPermutation-sym rows all same) rising

-- so rows in that order that pass a test are the ordered rows of those that pass it
pub rows_left : (p : NamedRow → Bool) (rows all : List NamedRow) → IsPermutation rows all
    → IsStrictlySortedBy by_identity rows
    → filter p rows ≡ members (set_of by_identity (filter p all))
rows_left p rows all same rising =
    let own = IsDistinct-from_sorted by_identity rows rising in
    let distinct = distinct_permuted by_identity_total rows all same own in
    let given = given_permuted by_identity (λ row. cond (p row) (Some row) None) by_identity_total
    all (apart_from_distinct (eq_by_cmp by_identity) all distinct) in
    let in_order : List NamedRow = members (set_of by_identity all) in
    let passing : IsPermutation (filter p in_order) (filter p all) =
    subst (λ xs. IsPermutation xs (filter p all)) (filter-given p in_order)
    (subst (IsPermutation (filter_map (λ row. cond (p row) (Some row) None) in_order))
    (filter-given p all) given) in
    rows_in_order (filter p rows) (filter p all)
    (subst (λ (some : List NamedRow). IsPermutation (filter p some) (filter p all))
    (sym (rows_in_order rows all same rising)) passing)
    (IsStrictlySortedBy-filter by_identity p rows rising)
