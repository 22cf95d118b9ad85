-- The records in dispute, by identity, then name.
use Rattle.std.proofs.Common.{◌≡◌, ℕ, List, [], ◌∷◌, ◌++◌, refl, sym, ap, ◌∙◌, true, false, Bool}
use Rattle.std.proofs.Common.{◌&&◌, ◌||◌, filter, Ordering, Less}
use Rattle.std.specs.List.Sorted.{IsStrictlySortedBy}
use Rattle.book_model.proofs.Std.{IsTotalOrder, tied_itself, AllByRecursion, list_any, eq_by_cmp}
use Rattle.book_model.proofs.Std.{ordering_then, nat_list_cmp_total, then_total, on_total}
use Rattle.book_model.proofs.Std.{list_any-append, exact_bytes}
use Rattle.book_model.specs.Words.{by_name, records_of, Records, Naming, by_bytes, same_bytes}
use Rattle.book_model.specs.Words.{Rulings, identity_by, set_of, members, has}
use Rattle.book_model.proofs.Lemmas.{is, first_of, members_rise}
use Rattle.book_model.proofs.SetLemmas.{any-members, same_ties}
use Rattle.book_core.proofs.NamedLemmas.{by_name_total, by_name_exact, same_texts, second_equal}
use Rattle.table_model.proofs.ListOrder.{all_joined, all_so, all_texts, rise_together}
use Rattle.table_model.proofs.SetReading.{among-filter}
use Rattle.std.specs.FinMap as fin

module _ (naming : Naming) (rulings : Rulings) (held : Records) where
  -- the identity of a record
  abbrev identity : List ℕ → List ℕ
  identity bytes = identity_by rulings bytes

  -- by identity, then name
  abbrev pub by_work : List ℕ → List ℕ → Ordering
  by_work one other =
      ordering_then (by_bytes (identity one) (identity other)) (by_name naming one other)

  -- it is an order
  pub by_work_total : IsTotalOrder by_work
  by_work_total = then_total (on_total identity nat_list_cmp_total) (by_name_total naming)

  -- and distinguishes records,
  pub by_work_exact : fin.IsAntisymmetric by_work
  by_work_exact one other tied =
      by_name_exact naming one other
      (second_equal (by_bytes (identity one) (identity other)) (by_name naming one other) tied)

  -- so records tie in it only if they are equal
  pub work_ties : (one other : List ℕ) → eq_by_cmp by_work one other ≡ is one other
  work_ties = same_ties by_work_total by_work_exact nat_list_cmp_total exact_bytes

  -- the records of an identity
  abbrev pub block : List ℕ → List (List ℕ)
  block id = records_of naming rulings held id

  -- which records they are
  pub in_block : (id q : List ℕ) → list_any (is q) (block id)
      ≡ (same_bytes (identity q) id && has held q)
  in_block id q =
      let own : List ℕ → Bool = λ bytes. same_bytes (identity bytes) id in
      any-members (by_name_total naming) (by_name_exact naming) (is q) (filter own (members held))
      ∙ among-filter own held q

  -- each has that identity
  pub block_own : (id : List ℕ) → AllByRecursion (λ bytes. identity bytes ≡ id) (block id)
  block_own id =
      all_texts (λ bytes. identity bytes ≡ id) (block id) (λ q among.
      same_texts (identity q) id
      (first_of (same_bytes (identity q) id) (has held q) (sym (in_block id q) ∙ among)))

  -- the records of several identities
  abbrev pub flat : List (List ℕ) → List (List ℕ)
  flat [] = []
  flat (id ∷ ids) = block id ++ flat ids

  -- which records they are
  pub in_flat : (ids : List (List ℕ)) (q : List ℕ) → list_any (is q) (flat ids)
      ≡ (list_any (same_bytes (identity q)) ids && has held q)
  in_flat [] q = refl
  in_flat (id ∷ ids) q =
      list_any-append (is q) (block id) (flat ids)
      ∙ (λ i. in_block id q i || in_flat ids q i)
      ∙ gather (same_bytes (identity q) id) (list_any (same_bytes (identity q)) ids) (has held q)
    where
      gather : (a b h : Bool) → ((a && h) || (b && h)) ≡ ((a || b) && h)
      gather true b true = refl
      gather true true false = refl
      gather true false false = refl
      gather false b h = refl

  -- records of one identity that rise by name rise
  pub one_identity : (id : List ℕ) (ks : List (List ℕ)) → IsStrictlySortedBy (by_name naming) ks
      → AllByRecursion (λ bytes. identity bytes ≡ id) ks → IsStrictlySortedBy by_work ks
  unfolding IsStrictlySortedBy
  one_identity id [] rising own = tt
  one_identity id (k ∷ ks) rising own =
      (heads ks rising.0 own.1, one_identity id ks rising.1 own.1)
    where
      heads : (others : List (List ℕ)) → AllByRecursion (λ y. by_name naming k y ≡ Less) others
          → AllByRecursion (λ bytes. identity bytes ≡ id) others
          → AllByRecursion (λ y. by_work k y ≡ Less) others
      heads [] less its = tt
      heads (y ∷ others) less its = (
        (λ i. ordering_then (by_bytes (own.0 i) (its.0 i)) (by_name naming k y))
            ∙ ap (λ r. ordering_then r (by_name naming k y))
            (tied_itself nat_list_cmp_total id)
            ∙ less.0,
        heads others less.1 its.1,
      )

  -- an identity that is below others is below those of their records
  below_flat : (id : List ℕ) (ids : List (List ℕ))
      → AllByRecursion (λ other. by_bytes id other ≡ Less) ids
      → AllByRecursion (λ y. by_bytes id (identity y) ≡ Less) (flat ids)
  below_flat id [] less = tt
  below_flat id (other ∷ ids) less =
      all_joined (λ y. by_bytes id (identity y) ≡ Less) (block other) (flat ids)
      (all_so (λ y. identity y ≡ other) (λ y. by_bytes id (identity y) ≡ Less)
      (λ y its. ap (by_bytes id) its ∙ less.0) (block other) (block_own other))
      (below_flat id ids less.1)

  -- the records of rising identities rise
  pub flat_rises : (ids : List (List ℕ)) → IsStrictlySortedBy by_bytes ids
      → IsStrictlySortedBy by_work (flat ids)
  unfolding IsStrictlySortedBy
  flat_rises [] rising = tt
  flat_rises (id ∷ ids) rising =
      rise_together by_work (block id) (flat ids)
      (one_identity id (block id)
      (members_rise (by_name_total naming)
      (set_of (by_name naming) (filter (λ bytes. same_bytes (identity bytes) id) (members held))))
      (block_own id))
      (flat_rises ids rising.1)
      (all_so (λ x. identity x ≡ id)
      (λ x. AllByRecursion (λ y. by_work x y ≡ Less) (flat ids))
      (λ x own. all_so (λ y. by_bytes id (identity y) ≡ Less) (λ y. by_work x y ≡ Less)
      (λ y less. ap (λ k. ordering_then (by_bytes k (identity y)) (by_name naming x y)) own
      ∙ ap (λ r. ordering_then r (by_name naming x y)) less) (flat ids)
      (below_flat id ids rising.0))
      (block id) (block_own id))
