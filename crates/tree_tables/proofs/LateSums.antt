-- Sums over the records that pass a test: where one record less passes, and where only those that
-- pass will cost something else under a tariff.
use Rattle.std.proofs.Common.{◌≡◌, ◌∙◌, ◌+◌, ℕ, List, [], ◌∷◌, Bool, true, false, cond, Some, None}
use Rattle.std.proofs.Common.{refl, sym, ap, arith}
use Rattle.std.specs.Prelude.{T, filter, if◌then◌else◌, int_lt, sum_by}
use Rattle.std.specs.FinMap.{entries, entries_sorted, find, get, get-entries, is_sorted, values}
use Rattle.std.specs.List.{AllByRecursion}
use Rattle.std.specs.Ordering.{eq_by_cmp}
use Rattle.std.proofs.lemmas.Cmp.{eq_by_cmp_equiv, nat_list_cmp_total}
use Rattle.std.proofs.lemmas.List.Folds.{fold-map}
use Rattle.std.proofs.lemmas.List.Sums.{sum_by-cons}
use Rattle.std.proofs.lemmas.Map.Views.{tells_apart}
use Rattle.book_model.specs.Words.{Terms, by_bytes, price_by, record_with, same_bytes}
use Rattle.book_model.proofs.SetLemmas.{same_bytes-by_cmp}
use Rattle.table_model.specs.TableChanges.{amount_under}
use Rattle.table_model.specs.Tables.{RecordRow, RecordTable, Tables}
use Rattle.tree_rows.proofs.IndexOrders.{by_bytes_exact}
use Rattle.tree_rows.proofs.Maps.{first, not_none, second}
use Rattle.tree_rows.proofs.Taking.{find_above, some_is}
use Rattle.tree_tables.proofs.FoundNames.{Entry}
use Rattle.tree_tables.proofs.RowsRead.{all_entries}

module _ (f : Entry → ℕ) (p : Entry → Bool) (e : Entry) (es : List Entry) where
  -- with one more that passes the sum is more by it
  sum_kept : p e ≡ true → sum_by f (filter p (e ∷ es)) ≡ f e + sum_by f (filter p es)
  sum_kept is =
      ap (λ b. sum_by f (cond b (e ∷ filter p es) (filter p es))) is
      ∙ sum_by-cons f e (filter p es)

  -- and with one that does not it is the same
  sum_passed : p e ≡ false → sum_by f (filter p (e ∷ es)) ≡ sum_by f (filter p es)
  sum_passed is = ap (λ b. sum_by f (cond b (e ∷ filter p es) (filter p es))) is

-- ---- one record less passes

module _ (f : Entry → ℕ) (p q : Entry → Bool) (name : List ℕ) (row : RecordRow) where
  -- the tests agree on records of other names
  abbrev Agree : Entry → Type 0
  Agree e = same_bytes e.0 name ≡ false → p e ≡ q e

  apart : (other : List ℕ) → eq_by_cmp by_bytes name other ≡ false → same_bytes other name ≡ false
  apart other differs =
      ap (λ (same : List ℕ → List ℕ → Bool). same other name) same_bytes-by_cmp
      ∙ (eq_by_cmp_equiv nat_list_cmp_total).symm other name ∙ differs

  -- where they agree on a record, both sums are more by it or neither is
  both_more : (part : ℕ) (e : Entry) (es : List Entry) → p e ≡ q e
      → sum_by f (filter p es) ≡ part + sum_by f (filter q es)
      → sum_by f (filter p (e ∷ es)) ≡ part + sum_by f (filter q (e ∷ es))
  both_more part e es alike so =
      elim (q e) as (λ b. q e ≡ b
      → sum_by f (filter p (e ∷ es)) ≡ part + sum_by f (filter q (e ∷ es))) [
        | true ↦ λ is.
            let one = sum_kept f p e es (alike ∙ is) in
            let other = sum_kept f q e es is in
            omega (arith, so, one, other)
        | false ↦ λ is.
            let one = sum_passed f p e es (alike ∙ is) in
            let other = sum_passed f q e es is in
            omega (arith, so, one, other)
      ] refl

  -- so the sums are one where no record has the name
  none_named : (es : List Entry) → AllByRecursion Agree es → find by_bytes name es ≡ None
      → sum_by f (filter p es) ≡ 0 + sum_by f (filter q es)
  none_named [] all none = omega arith
  none_named (e ∷ es) all none =
      elim (eq_by_cmp by_bytes name e.0) as (λ b. eq_by_cmp by_bytes name e.0 ≡ b
      → cond b (Some e.1) (find by_bytes name es) ≡ None
      → sum_by f (filter p (e ∷ es)) ≡ 0 + sum_by f (filter q (e ∷ es))) [
        | true ↦ λ same found. absurd (not_none e.1 found)
        | false ↦ λ differs found.
            both_more 0 e es (all.0 (apart e.0 differs)) (none_named es all.1 found)
      ] refl none

  module _ (passes : p (name, row) ≡ true) (fails : q (name, row) ≡ false) where
    -- and differ by the record of the name, where it passes one test and fails the other
    one_named : (es : List Entry) → T (is_sorted by_bytes es) → AllByRecursion Agree es
        → find by_bytes name es ≡ Some row
        → sum_by f (filter p es) ≡ f (name, row) + sum_by f (filter q es)
    one_named [] up all found = absurd (not_none row (sym found))
    one_named (e ∷ es) up all found =
        elim (eq_by_cmp by_bytes name e.0) as (λ b. eq_by_cmp by_bytes name e.0 ≡ b
        → cond b (Some e.1) (find by_bytes name es) ≡ Some row
        → sum_by f (filter p (e ∷ es)) ≡ f (name, row) + sum_by f (filter q (e ∷ es))) [
          | true ↦ λ tie is.
              let same : name ≡ e.0 = tells_apart by_bytes_exact name e.0 tie in
              let own : ◌≡◌ {A = Entry} e (name, row) =
              λ i. (sym same i, some_is e.1 row is i) in
              let none : find by_bytes name es ≡ None =
              ap (λ k. find by_bytes k es) same ∙ find_above by_bytes e.0 es (first _ _ up) in
              let one = sum_kept f p e es (ap p own ∙ passes) in
              let other = sum_passed f q e es (ap q own ∙ fails) in
              let rest = none_named es all.1 none in
              let its = ap f own in
              omega (arith, one, other, rest, its)
          | false ↦ λ differs is.
              both_more (f (name, row)) e es (all.0 (apart e.0 differs))
              (one_named es (second _ _ up) all.1 is)
        ] refl found

-- One record less passes: the sum is less by it.
pub sum_one_less : (records : RecordTable) (f : Entry → ℕ) (p q : Entry → Bool) (name : List ℕ)
    (row : RecordRow) → get records name ≡ Some row → p (name, row) ≡ true
    → q (name, row) ≡ false
    → ((other : Entry) → get records other.0 ≡ Some other.1 → same_bytes other.0 name ≡ false
    → p other ≡ q other)
    → sum_by f (filter p (entries records)) ≡ f (name, row) + sum_by f (filter q (entries records))
sum_one_less records f p q name row there passes fails others =
    one_named f p q name row passes fails (entries records) (entries_sorted records)
    (all_entries nat_list_cmp_total by_bytes_exact (Agree f p q name row) records
    (λ k v is. others (k, v) is))
    (sym (get-entries records name) ∙ there)

-- ---- what all will cost under a tariff

module _ (now later : Entry → ℕ) (test : Entry → Bool) where
  -- of what does not pass the two sums have the same
  parts : (es : List Entry) → AllByRecursion (λ e. test e ≡ false → later e ≡ now e) es
      → sum_by later es + sum_by now (filter test es) ≡ sum_by now es + sum_by later (filter test es)
  parts [] all = refl
  parts (e ∷ es) all =
      let so = parts es all.1 in
      let one = sum_by-cons later e es in
      let other = sum_by-cons now e es in
      elim (test e) as (λ b. test e ≡ b
      → sum_by later (e ∷ es) + sum_by now (filter test (e ∷ es))
      ≡ sum_by now (e ∷ es) + sum_by later (filter test (e ∷ es))) [
        | true ↦ λ is.
            let a = sum_kept now test e es is in
            let b = sum_kept later test e es is in
            omega (arith, so, one, other, a, b)
        | false ↦ λ is.
            let a = sum_passed now test e es is in
            let b = sum_passed later test e es is in
            let same = all.0 is in
            omega (arith, so, one, other, a, b, same)
      ] refl

-- the sum over the values of a table is that over its entries
pub values_sum : (records : RecordTable) (f : RecordRow → ℕ)
    → sum_by f (values records) ≡ sum_by (λ (e : Entry). f e.1) (entries records)
values_sum records f =
    fold-map (λ n (row : RecordRow). n + f row) (λ (e : Entry). e.1) 0 (entries records)

-- What all records will cost, with what some cost now, is what all cost now, with what those will
-- cost: where the others are dated before the tariff's first day.
pub total_by_parts : (terms : Terms) (tables : Tables) (test : Entry → Bool)
    → ((name : List ℕ) (row : RecordRow) → get tables.records name ≡ Some row
    → test (name, row) ≡ false → int_lt row.priced.day terms.effective ≡ true)
    → sum_by (amount_under terms) (values tables.records)
    + sum_by (λ (e : Entry). e.1.priced.amount) (filter test (entries tables.records))
    ≡ sum_by (λ (row : RecordRow). row.priced.amount) (values tables.records)
    + sum_by (λ (e : Entry). amount_under terms e.1) (filter test (entries tables.records))
total_by_parts terms tables test early =
    let now : Entry → ℕ = λ e. e.1.priced.amount in
    let later : Entry → ℕ = λ e. amount_under terms e.1 in
    let all = values_sum tables.records (amount_under terms) in
    let all_now = values_sum tables.records (λ row. row.priced.amount) in
    let both = parts now later test (entries tables.records)
    (all_entries nat_list_cmp_total by_bytes_exact
    (λ (e : Entry). test e ≡ false → later e ≡ now e) tables.records
    (λ name row there fails.
    ap (λ b. if b then row.priced.amount
    else (price_by terms (record_with row.data_bytes)).amount) (early name row there fails))) in
    omega (arith, all, all_now, both)
