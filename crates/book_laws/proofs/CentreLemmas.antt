-- What is summed over the centres.
use Rattle.std.proofs.Common.{◌≡◌, ℕ, List, sym, ◌∙◌, subst, map, true, filter, sum_by}
use Rattle.book_model.proofs.Std.{IsDistinct, list_any, nat_list_cmp_total, nat_list_eq_equiv}
use Rattle.book_model.proofs.Std.{IsDistinct-from_sorted}
use Rattle.book_model.specs.Words.{by_bytes, members, same_bytes, set_of}
use Rattle.book_model.proofs.Lemmas.{list_any-map, any_tied-members, members_rise}
use Rattle.book_model.proofs.Lemmas.{same_bytes-by_cmp, sum_by-keys}
use Rattle.book_laws.specs.CentreLaws.{CentresAddUp}

-- sums over what each of some centres has are together the sum over all, where these are all
pub by_centres : {X : Type 0} (named : List (List ℕ)) (centre : X → List ℕ) (part : X → ℕ)
    (xs : List X)
    → ((x : X) → list_any (λ y. same_bytes (centre x) (centre y)) xs ≡ true
    → list_any (same_bytes (centre x)) named ≡ true)
    → sum_by (λ one. sum_by part (filter (λ x. same_bytes (centre x) one) xs))
    (members (set_of by_bytes named))
    ≡ sum_by part xs
by_centres named centre part xs all =
    let centres : List (List ℕ) = members (set_of by_bytes named) in
    let apart : IsDistinct same_bytes centres =
    subst (λ same. IsDistinct same centres) (sym same_bytes-by_cmp)
    (IsDistinct-from_sorted by_bytes centres
    (members_rise nat_list_cmp_total (set_of by_bytes named))) in
    sum_by-keys nat_list_eq_equiv centres apart centre part xs (λ x among.
    (λ i. list_any (same_bytes-by_cmp i (centre x)) centres)
    ∙ any_tied-members nat_list_cmp_total named (centre x)
    ∙ (λ i. list_any (sym same_bytes-by_cmp i (centre x)) named)
    ∙ all x among)

-- so it is with the centres of all
by_centre : {X : Type 0} (centre : X → List ℕ) (part : X → ℕ) (xs : List X)
    → sum_by (λ one. sum_by part (filter (λ x. same_bytes (centre x) one) xs))
    (members (set_of by_bytes (map centre xs)))
    ≡ sum_by part xs
by_centre centre part xs =
    by_centres (map centre xs) centre part xs (λ x among.
    list_any-map (same_bytes (centre x)) centre xs ∙ among)

-- the law
pub centres_add_up : CentresAddUp
centres_add_up = record {
  rows = λ part rows. by_centre (λ row. row.centre) part rows;
  lines = λ part lines. by_centre (λ line. line.priced.centre) part lines;
}
