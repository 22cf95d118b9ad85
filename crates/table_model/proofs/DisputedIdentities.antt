-- The identities in dispute: those of held records of which none is charged.
use Rattle.std.proofs.Common.{◌≡◌, ℕ, ◌+◌, List, map, length, refl, sym, ap, ◌∙◌, subst, true}
use Rattle.std.proofs.Common.{false, Bool, not, ◌&&◌, arith, filter, count_by, nat_le, nat_lt}
use Rattle.book_model.proofs.Std.{list_any, IsDistinct, IsStrictlySortedBy, eq_by_cmp, nat_tests}
use Rattle.book_model.proofs.Std.{nat_list_cmp_total, nat_list_eq_equiv, IsStrictlySortedBy-filter}
use Rattle.book_model.proofs.Std.{length-filter, IsDistinct-from_sorted, exact_bytes}
use Rattle.book_model.specs.Words.{conflict, is_in_dispute, is_settled, is_unrivalled, charged_now}
use Rattle.book_model.specs.Words.{by_name, identities, share_identity, Records, Naming, by_bytes}
use Rattle.book_model.specs.Words.{same_bytes, Rulings, identity_by, Set, set_of, members, has}
use Rattle.book_model.specs.Words.{is_withheld}
use Rattle.book_model.proofs.Lemmas.{list_any-map, is, same_bytes-by_cmp, members_rise}
use Rattle.book_model.proofs.Lemmas.{length-alike, list_any-count_by}
use Rattle.book_model.proofs.SetLemmas.{has-texts, members-alike, members-set_of, set_of-same}
use Rattle.book_model.proofs.SetLemmas.{same_ties}
use Rattle.book_core.proofs.NamedLemmas.{by_name_total, by_name_exact}
use Rattle.table_model.proofs.DisputedRecords.{by_work, by_work_total, by_work_exact, work_ties}
use Rattle.table_model.proofs.DisputedRecords.{block, flat, in_flat, flat_rises}
use Rattle.table_model.proofs.Rivals.{having, own_count}
use Rattle.table_model.proofs.SetReading.{among-filter, some_passes}

module _ (naming : Naming) (rulings : Rulings) (held : Records) where
  -- the identity of a record
  abbrev identity : List ℕ → List ℕ
  identity bytes = identity_by rulings bytes

  -- two or more records have it
  abbrev pub is_shared : List ℕ → Bool
  is_shared id = nat_le 2 (length (block naming rulings held id))

  -- the identities in dispute
  abbrev pub disputed : List (List ℕ)
  disputed = filter (is_in_dispute naming rulings held) (identities rulings held)

  -- what is charged
  abbrev charged : Records
  charged = charged_now rulings held

  -- nothing of a record's identity is charged, and its work is not withheld
  abbrev pub unsettled : List ℕ → Bool
  unsettled bytes =
      not (list_any (share_identity rulings bytes) (members charged))
      && not (is_withheld rulings bytes)

  -- the records for which this holds
  abbrev pub works : List (List ℕ)
  works = filter unsettled (members held)

  -- the identity of a held record is in dispute if nothing of it is charged
  abbrev pub AreUncharged : Type 0
  AreUncharged = (q : List ℕ) → has held q ≡ true
      → (not (is_unrivalled rulings held q) && not (is_settled rulings (identity q))) ≡ unsettled q

  -- some of the records that are held differ in their bytes,
  some_distinct : (p : List ℕ → Bool) → IsDistinct is (filter p (members held))
  some_distinct p =
      IsDistinct-from_sorted by_bytes (filter p (members held))
      (IsStrictlySortedBy-filter by_bytes p (members held)
      (members_rise nat_list_cmp_total held))

  -- so they differ in their names,
  pub named_distinct : (p : List ℕ → Bool)
      → IsDistinct (eq_by_cmp (by_name naming)) (filter p (members held))
  named_distinct p =
      let ties = same_ties (by_name_total naming) (by_name_exact naming) nat_list_cmp_total
      exact_bytes in
      subst (λ same. IsDistinct same (filter p (members held))) (λ i a b. sym (ties a b) i)
      (some_distinct p)

  -- and in identity and name together
  pub works_distinct : IsDistinct (eq_by_cmp (by_work naming rulings held)) works
  works_distinct =
      subst (λ same. IsDistinct same works)
      (λ i a b. sym (work_ties naming rulings held a b) i)
      (some_distinct unsettled)

  -- other records share a record's identity if it conflicts with one
  shared_where : (q : List ℕ) → has held q ≡ true
      → is_shared (identity q) ≡ list_any (conflict rulings q) (members held)
  shared_where q there =
      let all : List (List ℕ) = members held in
      let own : List ℕ → Bool = having rulings held (identity q) in
      let count : length (block naming rulings held (identity q)) ≡ count_by own all =
      length-alike (members-alike (by_name_total naming) (filter own all) (named_distinct own))
      ∙ length-filter own all in
      ap (nat_le 2) (count ∙ own_count rulings held q there)
      ∙ one_more (count_by (conflict rulings q) all)
      ∙ sym (list_any-count_by (conflict rulings q) all)
    where
      one_more : (n : ℕ) → nat_le 2 (1 + n) ≡ nat_lt 0 n
      one_more n = grind (arith, nat_tests)

  -- which identities are in dispute
  pub in_disputed : (k : List ℕ) → list_any (same_bytes k) disputed
      ≡ (is_in_dispute naming rulings held k
      && list_any (same_bytes k) (map identity (members held)))
  in_disputed k =
      let all : Set by_bytes = set_of by_bytes (map identity (members held)) in
      let test : List ℕ → Bool = is_in_dispute naming rulings held in
      (λ i. list_any (same_bytes-by_cmp i k) disputed)
      ∙ among-filter test all k
      ∙ ap (λ b. test k && b) (has-texts (map identity (members held)) k)

  module _ (uncharged : AreUncharged) where
    -- a held record's identity is in dispute if nothing of it is charged
    pub disputed_where : (q : List ℕ) → has held q ≡ true
        → list_any (same_bytes (identity q)) disputed ≡ unsettled q
    disputed_where q there =
        let settled : Bool = is_settled rulings (identity q) in
        let own = list_any-map (same_bytes (identity q)) identity (members held)
        ∙ some_passes (λ x. same_bytes (identity q) (identity x)) held q there
        (nat_list_eq_equiv.refl (identity q)) in
        in_disputed (identity q)
        ∙ (λ i. (shared_where q there i && not settled) && own i)
        ∙ turn (list_any (conflict rulings q) (members held)) (not settled)
        ∙ uncharged q there
      where
        turn : (rivalled open_still : Bool)
            → ((rivalled && open_still) && true) ≡ (not (not rivalled) && open_still)
        turn true true = refl
        turn true false = refl
        turn false open_still = refl

    -- so the records of those identities are these
    same_works : (q : List ℕ)
        → list_any (is q) (flat naming rulings held disputed) ≡ list_any (is q) works
    same_works q =
        in_flat naming rulings held disputed q
        ∙ under (list_any (same_bytes (identity q)) disputed) (unsettled q) (has held q)
        (disputed_where q)
        ∙ sym (among-filter unsettled held q)
      where
        under : (a b h : Bool) → (h ≡ true → a ≡ b) → (a && h) ≡ (b && h)
        under a b true same = ap (λ x. x && true) (same refl)
        under true true false same = refl
        under true false false same = refl
        under false true false same = refl
        under false false false same = refl

  -- the identities in dispute rise,
  pub disputed_rises : IsStrictlySortedBy by_bytes disputed
  disputed_rises =
      IsStrictlySortedBy-filter by_bytes (is_in_dispute naming rulings held)
      (identities rulings held)
      (members_rise nat_list_cmp_total (set_of by_bytes (map identity (members held))))

  -- so their records are these, in order
  pub flat_is : AreUncharged → flat naming rulings held disputed
      ≡ members (set_of (by_work naming rulings held) works)
  flat_is uncharged =
      let ties = work_ties naming rulings held in
      let all : List (List ℕ) = flat naming rulings held disputed in
      sym (members-set_of (by_work_total naming rulings held) all
      (flat_rises naming rulings held disputed disputed_rises))
      ∙ ap members (set_of-same (by_work_total naming rulings held)
      (by_work_exact naming rulings held) all works (λ q.
      (λ i. list_any (λ x. ties q x i) all) ∙ same_works uncharged q
      ∙ sym (λ i. list_any (λ x. ties q x i) works)))
