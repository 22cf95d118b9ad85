-- Tables that number their rows by periods: what the open period, which is the last, has.
use Rattle.std.proofs.Common.{◌≡◌, ℕ, suc, ◌+◌, List, [], ◌∷◌, ◌++◌, length, refl, sym, ap, ◌∙◌}
use Rattle.std.proofs.Common.{true, false, Bool, cond, Option, Some, None, arith, is_eq, nat_cmp}
use Rattle.std.proofs.Common.{Ordering, Less, Equal, Greater}
use Rattle.std.specs.Cmp.{IsTotalOrder, nat_cmp_total, tied_itself}
use Rattle.std.specs.FinMap.{FinMap, IsAntisymmetric, find, get, insert, remove, from_entries}
use Rattle.std.specs.FinMap.{get-from_entries, nat_cmp-IsAntisymmetric}
use Rattle.std.specs.Ordering.{eq_by_cmp, ordering_then}
use Rattle.std.proofs.lemmas.Cmp.{then_total, on_total}
use Rattle.std.proofs.lemmas.Map.Lookups.{exact_pairs}
use Rattle.book_model.proofs.MapLemmas.{else_find, find-both, else_none, from_entries-insert}
use Rattle.book_model.proofs.MapLemmas.{from_entries-remove, not_tied}
use Rattle.table_model.specs.PeriodRows.{by_period, under, numbered}

-- two numbers are equal
abbrev pub is_number : ℕ → ℕ → Bool
is_number a b = is_eq (nat_cmp a b)

-- a period without rows adds none
pub numbered-nothing : {K V : Type 0} (n : ℕ) (periods : List (List (K × V)))
    → numbered n (periods ++ [] ∷ []) ≡ numbered n periods
numbered-nothing n [] = refl
numbered-nothing n (rows ∷ periods) =
    ap (λ es. under n rows ++ es) (numbered-nothing (suc n) periods)

module _ {K : Type 0} (R : K → K → Ordering) where
  -- the order by period and key is total,
  pub by_period_total : IsTotalOrder R → IsTotalOrder (by_period R)
  by_period_total o =
      then_total (on_total (λ (k : ℕ × K). k.0) nat_cmp_total) (on_total (λ (k : ℕ × K). k.1) o)

  -- and distinguishes all keys
  pub by_period_exact : IsAntisymmetric R → IsAntisymmetric (by_period R)
  by_period_exact exact = exact_pairs nat_cmp R nat_cmp-IsAntisymmetric exact

  module _ {V : Type 0} where
    -- nothing is found, either way
    no_find : (b : Bool) → ◌≡◌ {A = Option V} None (cond b None None)
    no_find true = refl
    no_find false = refl

    -- the rows of one period are found under its number alone
    pub find-under : (q : ℕ × K) (n : ℕ) (rows : List (K × V))
        → find (by_period R) q (under n rows) ≡ cond (is_number q.0 n) (find R q.1 rows) None
    find-under q n [] = no_find (is_number q.0 n)
    find-under q n (row ∷ rows) =
        let rest = find-under q n rows in
        elim (nat_cmp q.0 n) as
        (λ r. find (by_period R) q (under n rows) ≡ cond (is_eq r) (find R q.1 rows) None
        → cond (is_eq (ordering_then r (R q.1 row.0))) (Some row.1)
        (find (by_period R) q (under n rows))
        ≡ cond (is_eq r) (cond (eq_by_cmp R q.1 row.0) (Some row.1) (find R q.1 rows)) None) [
          | Less ↦ λ rest. rest
          | Equal ↦ λ rest. ap (cond (eq_by_cmp R q.1 row.0) (Some row.1)) rest
          | Greater ↦ λ rest. rest
        ] rest

    -- of periods, the last is found under its own number, and what is before it under the others
    pub find-last : (q : ℕ × K) (n number : ℕ) (periods : List (List (K × V))) (last : List (K × V))
        → number ≡ n + length periods
        → find (by_period R) q (numbered n (periods ++ last ∷ []))
        ≡ cond (is_number q.0 number) (find R q.1 last) (find (by_period R) q (numbered n periods))
    find-last q n number [] last is =
        let same : number ≡ n = omega arith in
        find-both (by_period R) q (under n last) []
        ∙ else_none (find (by_period R) q (under n last))
        ∙ find-under q n last
        ∙ ap (λ n. cond (is_number q.0 n) (find R q.1 last) None) (sym same)
    find-last q n number (rows ∷ periods) last is =
        let later : number ≡ suc n + length periods = omega arith in
        let rest = find-last q (suc n) number periods last later in
        find-both (by_period R) q (under n rows) (numbered (suc n) (periods ++ last ∷ []))
        ∙ (λ i. else_find (find-under q n rows i) (rest i))
        ∙ one_number (nat_cmp q.0 n) refl
        ∙ ap (cond (is_number q.0 number) (find R q.1 last))
        ((λ i. else_find (sym (find-under q n rows) i)
        (find (by_period R) q (numbered (suc n) periods)))
        ∙ sym (find-both (by_period R) q (under n rows) (numbered (suc n) periods)))
      where
        apart : q.0 ≡ n → is_number q.0 number ≡ false
        apart same =
            not_tied nat_cmp_total nat_cmp-IsAntisymmetric q.0 number (λ also. absurd (omega arith))

        one_number : (r : Ordering) → nat_cmp q.0 n ≡ r
            → else_find (cond (is_eq r) (find R q.1 rows) None)
            (cond (is_number q.0 number) (find R q.1 last)
            (find (by_period R) q (numbered (suc n) periods)))
            ≡ cond (is_number q.0 number) (find R q.1 last)
            (else_find (cond (is_eq r) (find R q.1 rows) None)
            (find (by_period R) q (numbered (suc n) periods)))
        one_number Less e = refl
        one_number Greater e = refl
        one_number Equal e =
            let other = apart (nat_cmp-IsAntisymmetric q.0 n e) in
            let rest = find (by_period R) q (numbered (suc n) periods) in
            ap (λ b. else_find (find R q.1 rows) (cond b (find R q.1 last) rest)) other
            ∙ sym (ap (λ b. cond b (find R q.1 last) (else_find (find R q.1 rows) rest)) other)

    module _ (o : IsTotalOrder R) (exact : IsAntisymmetric R) (n number : ℕ)
        (periods : List (List (K × V)))
        (is : number ≡ n + length periods) where
      -- the table of these periods and an open one
      abbrev pub table_with : List (K × V) → FinMap (by_period R) V
      table_with last = from_entries (numbered n (periods ++ last ∷ []))

      -- what it has in the open period
      pub get-open : (last : List (K × V)) (k : K) → get (table_with last) (number, k)
          ≡ find R k last
      get-open last k =
          get-from_entries (by_period_total o) (numbered n (periods ++ last ∷ [])) (number, k)
          ∙ find-last (number, k) n number periods last is
          ∙ ap (λ r. cond (is_eq r) (find R k last)
          (find (by_period R) (number, k) (numbered n periods))) (tied_itself nat_cmp_total number)

      -- another entry in the open period, or none, at one key
      open-find : (old new : List (K × V)) (k : K) (v : Option V)
          → ((q : K) → find R q new ≡ cond (eq_by_cmp R q k) v (find R q old)) → (q : ℕ × K)
          → find (by_period R) q (numbered n (periods ++ new ∷ []))
          ≡ cond (eq_by_cmp (by_period R) q (number, k)) v
          (find (by_period R) q (numbered n (periods ++ old ∷ [])))
      open-find old new k v differ q =
          let past : Option V = find (by_period R) q (numbered n periods) in
          find-last q n number periods new is
          ∙ ap (λ found. cond (is_number q.0 number) found past) (differ q.1)
          ∙ elim (nat_cmp q.0 number) as (λ r.
          cond (is_eq r) (cond (eq_by_cmp R q.1 k) v (find R q.1 old)) past
          ≡ cond (is_eq (ordering_then r (R q.1 k))) v (cond (is_eq r) (find R q.1 old) past)) [
            | Less ↦ refl
            | Equal ↦ refl
            | Greater ↦ refl
          ]
          ∙ ap (cond (eq_by_cmp (by_period R) q (number, k)) v)
          (sym (find-last q n number periods old is))

      pub open-insert : (old new : List (K × V)) (k : K) (v : V)
          → ((q : K) → find R q new ≡ cond (eq_by_cmp R q k) (Some v) (find R q old))
          → table_with new ≡ insert (table_with old) (number, k) v
      open-insert old new k v differ =
          from_entries-insert (by_period_total o) (by_period_exact exact)
          (numbered n (periods ++ old ∷ [])) (numbered n (periods ++ new ∷ [])) (number, k) v
          (open-find old new k (Some v) differ)

      pub open-remove : (old new : List (K × V)) (k : K)
          → ((q : K) → find R q new ≡ cond (eq_by_cmp R q k) None (find R q old))
          → table_with new ≡ remove (table_with old) (number, k)
      open-remove old new k differ =
          from_entries-remove (by_period_total o) (by_period_exact exact)
          (numbered n (periods ++ old ∷ [])) (numbered n (periods ++ new ∷ [])) (number, k)
          (open-find old new k None differ)
