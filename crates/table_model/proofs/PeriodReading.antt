-- The rows of a period are those that a table of all periods has under its number.
use Rattle.std.proofs.Common.{◌≡◌, ℕ, zero, suc, ◌+◌, ◌<◌, List, [], ◌∷◌, refl, sym, ap, ◌∙◌, subst}
use Rattle.std.proofs.Common.{Bool, cond, ◌&&◌, Some, None, T, arith, slice_get, ◌==◌, is_eq, is_lt}
use Rattle.std.proofs.Common.{nat_cmp, Ordering, Less, Equal, Greater}
use Rattle.std.specs.Cmp.{IsTotalOrder, nat_cmp_total, tied_itself, unsigned_tied}
use Rattle.std.specs.FinMap.{FinMap, IsAntisymmetric, find, entries, from_entries, entries_sorted}
use Rattle.std.specs.FinMap.{get-entries, get-from_entries, nat_cmp-IsAntisymmetric}
use Rattle.std.specs.FinMap.Entries.{below_all, is_sorted, where_key, is_sorted-where_key}
use Rattle.std.specs.FinMap.Entries.{find-where_key, same_entries}
use Rattle.std.specs.Ordering.{ordering_then}
use Rattle.book_model.proofs.MapLemmas.{else_find, find-both, else_none}
use Rattle.table_model.specs.PeriodRows.{by_period, under, numbered, rows_under}
use Rattle.table_model.proofs.MoveLemmas.{not_number}
use Rattle.table_model.proofs.NumberedLemmas.{by_period_total, by_period_exact, is_number}
use Rattle.table_model.proofs.NumberedLemmas.{find-under}

module _ {K V : Type 0} (R : K → K → Ordering) where
  -- rows under a number that are in order are so without it
  below-under : (n : ℕ) (k : K) (rows : List (K × V))
      → below_all (by_period R) (n, k) (under n rows) ≡ below_all R k rows
  below-under n k [] = refl
  below-under n k (row ∷ rows) =
      let rest = below-under n k rows in
      λ i. is_lt (ordering_then (tied_itself nat_cmp_total n i) (R k row.0)) && rest i

  -- so rows that are in order are so under a number
  sorted-under : (n : ℕ) (rows : List (K × V)) → is_sorted (by_period R) (under n rows)
      ≡ is_sorted R rows
  sorted-under n [] = refl
  sorted-under n (row ∷ rows) = λ i. below-under n row.0 rows i && sorted-under n rows i

  -- a number before the first is not found
  find-before : (q : ℕ × K) (n : ℕ) (periods : List (List (K × V))) → q.0 < n
      → find (by_period R) q (numbered n periods) ≡ None
  find-before q n [] before = refl
  find-before q n (rows ∷ periods) before =
      let earlier : q.0 < suc n = omega arith in
      let apart = not_number q.0 n (λ same. absurd (omega arith)) in
      find-both (by_period R) q (under n rows) (numbered (suc n) periods)
      ∙ (λ i. else_find ((find-under R q n rows ∙ ap (λ b. cond b (find R q.1 rows) None) apart) i)
      (find-before q (suc n) periods earlier i))

  -- of periods, each is found under its own number
  pub find-at : (q : ℕ × K) (n k : ℕ) (periods : List (List (K × V))) (rows : List (K × V))
      → slice_get periods k ≡ Some rows → q.0 ≡ n + k
      → find (by_period R) q (numbered n periods) ≡ find R q.1 rows
  find-at q n k [] rows there is = cc
  find-at q n zero (first ∷ periods) rows there is =
      let same : q.0 ≡ n = omega arith in
      let before : q.0 < suc n = omega arith in
      let own : first ≡ rows = cc in
      find-both (by_period R) q (under n first) (numbered (suc n) periods)
      ∙ ap (else_find (find (by_period R) q (under n first))) (find-before q (suc n) periods before)
      ∙ else_none (find (by_period R) q (under n first))
      ∙ find-under R q n first
      ∙ ap (λ r. cond (is_eq r) (find R q.1 first) None)
      (ap (λ m. nat_cmp m n) same ∙ tied_itself nat_cmp_total n)
      ∙ ap (find R q.1) own
  find-at q n (suc k) (first ∷ periods) rows there is =
      let next : q.0 ≡ suc n + k = omega arith in
      let apart = not_number q.0 n (λ same. absurd (omega arith)) in
      find-both (by_period R) q (under n first) (numbered (suc n) periods)
      ∙ ap (λ found. else_find found (find (by_period R) q (numbered (suc n) periods)))
      (find-under R q n first ∙ ap (λ b. cond b (find R q.1 first) None) apart)
      ∙ find-at q (suc n) k periods rows there next

  module _ (o : IsTotalOrder R) (exact : IsAntisymmetric R) where
    -- the entries of a period are those of the table under its number
    pub read-period : (n k number : ℕ) (periods : List (List (K × V))) (rows : List (K × V))
        → slice_get periods k ≡ Some rows → number ≡ n + k
        → rows_under number (from_entries {R = by_period R} (numbered n periods))
        ≡ under number (entries (from_entries {R = R} rows))
    read-period n k number periods rows there is =
        let table : FinMap (by_period R) V = from_entries (numbered n periods) in
        let alone : FinMap R V = from_entries rows in
        let own : ℕ × K → Bool = λ place. place.0 == number in
        same_entries (by_period R) (by_period_total R o) (by_period_exact R exact)
        (where_key (by_period R) own (entries table)) (under number (entries alone))
        (is_sorted-where_key (by_period R) own (entries table) (entries_sorted table))
        (subst T (sym (sorted-under number (entries alone))) (entries_sorted alone)) (λ q.
        find-where_key (by_period R) own q
        (λ x tied. ap own (sym (by_period_exact R exact q x tied))) (entries table)
        ∙ ap (λ found. cond (q.0 == number) found None)
        (sym (get-entries table q) ∙ get-from_entries (by_period_total R o) (numbered n periods) q)
        ∙ ap (λ b. cond b (find (by_period R) q (numbered n periods)) None) (sym (unsigned_tied q.0 number))
        ∙ own_number q (nat_cmp q.0 number) refl
        ∙ ap (λ found. cond (is_number q.0 number) found None)
        (sym (get-from_entries o rows q.1) ∙ get-entries alone q.1)
        ∙ sym (find-under R q number (entries alone)))
      where
        own_number : (q : ℕ × K) (r : Ordering) → nat_cmp q.0 number ≡ r
            → cond (is_eq r) (find (by_period R) q (numbered n periods)) None
            ≡ cond (is_eq r) (find R q.1 rows) None
        own_number q Less e = refl
        own_number q Equal e =
            find-at q n k periods rows there (nat_cmp-IsAntisymmetric q.0 number e ∙ is)
        own_number q Greater e = refl
