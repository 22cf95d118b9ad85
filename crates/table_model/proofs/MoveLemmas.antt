-- A close moves the rows of the open period that are dated after its day to the next period.
use Rattle.std.proofs.Common.{◌≡◌, ℕ, suc, ◌+◌, List, [], ◌∷◌, ◌++◌, length, refl, sym, ap, ◌∙◌}
use Rattle.std.proofs.Common.{true, false, true≢false, Bool, cond, ◌&&◌, Option, Some, None, arith}
use Rattle.std.proofs.Common.{is_some, subst, ℤ, int_lt, ◌==◌, if◌then◌else◌, option_and_then}
use Rattle.std.proofs.Common.{eqb-true, eq-eqb, length-append}
use Rattle.std.specs.Cmp.{unsigned_tied}
use Rattle.std.specs.FinMap.{find}
use Rattle.book_model.proofs.Std.{both_ways, IsTotalOrder, nat_cmp_total, get, from_entries}
use Rattle.book_model.proofs.Std.{same_map, get-from_entries, contains_key, IsAntisymmetric}
use Rattle.book_model.proofs.Std.{nat_cmp-IsAntisymmetric, option_map_or, eq_by_cmp}
use Rattle.book_model.proofs.Std.{false_from_ne_true, eq_by_cmp_equiv, tells_apart}
use Rattle.book_model.specs.declared.row.ChargeRow.{ChargeRow}
use Rattle.book_model.specs.declared.row.RowKey.{RowKey}
use Rattle.book_model.specs.Words.{by_key}
use Rattle.book_model.proofs.MapLemmas.{not_tied}
use Rattle.book_model.proofs.Lemmas.{by_key_total, by_key_exact}
use Rattle.table_model.specs.Words.{moved, by_period, numbered, move_on, DayTable}
use Rattle.table_model.proofs.MovedLemmas.{get-moved}
use Rattle.table_model.proofs.NumberedLemmas.{by_period_total, by_period_exact, find-last}
use Rattle.table_model.proofs.NumberedLemmas.{is_number, numbered-nothing}

-- where rows are kept, and how
abbrev places_total : IsTotalOrder (by_period by_key)
places_total = by_period_total by_key by_key_total

abbrev places_exact : IsAntisymmetric (by_period by_key)
places_exact = by_period_exact by_key by_key_exact

-- two places are one
abbrev ties : ℕ × RowKey → ℕ × RowKey → Bool
ties = eq_by_cmp (by_period by_key)

-- numbers that differ are not the same
pub not_number : (a b : ℕ) → (a ≡ b → ⊥) → is_number a b ≡ false
not_number a b differ = not_tied nat_cmp_total nat_cmp-IsAntisymmetric a b differ

module _ (number : ℕ) (day : ℤ) where
  -- The place from which a place has its row after the move, if there is one: by whether it is in
  -- the next period, in the open one, and dated after the day.
  abbrev source_by : Bool → Bool → Bool → ℕ × RowKey → Option (ℕ × RowKey)
  source_by next own late q =
      if next then (if late then Some (number, q.1) else None)
      else if own && late then None
      else Some q

  abbrev source : ℕ × RowKey → Option (ℕ × RowKey)
  source q = source_by (q.0 == suc number) (q.0 == number) (int_lt day q.1.day) q

  -- where no row was in the next period, a row is at a place if it was at the place's source
  tie : (q k : ℕ × RowKey) → (k.0 == suc number) ≡ false
      → ties q (move_on number day k) ≡ option_map_or (λ s. ties s k) (source q) false
  tie q k below =
      both_ways (ties q (move_on number day k)) (option_map_or (λ s. ties s k) (source q) false)
      (λ one. subst (λ q. option_map_or (λ s. ties s k) (source q) false ≡ true)
      (sym (tells_apart places_exact q (move_on number day k) one))
      (lands (k.0 == number) (int_lt day k.1.day) refl refl))
      (comes (q.0 == suc number) (q.0 == number) (int_lt day q.1.day) refl refl refl)
    where
      itself : (place : ℕ × RowKey) → ties place place ≡ true
      itself = (eq_by_cmp_equiv places_total).refl

      lands : (own late : Bool) → (k.0 == number) ≡ own → int_lt day k.1.day ≡ late
          → option_map_or (λ s. ties s k)
          (source (if own && late then (suc number, k.1) else k)) false ≡ true
      lands true true its after =
          (λ i. option_map_or (λ s. ties s k) (source_by (eq-eqb (suc number) (suc number) refl i)
          (suc number == number) (after i) (suc number, k.1)) false)
          ∙ ap (λ n. ties (n, k.1) k) (sym (eqb-true k.0 number its)) ∙ itself k
      lands true false its after =
          (λ i. option_map_or (λ s. ties s k) (source_by (below i) (its i) (after i) k) false)
          ∙ itself k
      lands false late its after =
          (λ i. option_map_or (λ s. ties s k) (source_by (below i) (its i) (after i) k) false)
          ∙ itself k

      comes : (next own late : Bool) → (q.0 == suc number) ≡ next → (q.0 == number) ≡ own
          → int_lt day q.1.day ≡ late
          → option_map_or (λ s. ties s k) (source_by next own late q) false ≡ true
          → ties q (move_on number day k) ≡ true
      comes true own true here its after one =
          ap (λ k. ties q (move_on number day k))
          (sym (tells_apart places_exact (number, q.1) k one))
          ∙ (λ i. ties q (if eq-eqb number number refl i && after i then (suc number, q.1)
          else (number, q.1)))
          ∙ ap (λ n. ties q (n, q.1)) (sym (eqb-true q.0 (suc number) here)) ∙ itself q
      comes true own false here its after one = absurd (true≢false (sym one))
      comes false true true here its after one = absurd (true≢false (sym one))
      comes false true false here its after one =
          ap (λ k. ties q (move_on number day k)) (sym (tells_apart places_exact q k one))
          ∙ (λ i. ties q (if its i && after i then (suc number, q.1) else q)) ∙ itself q
      comes false false late here its after one =
          ap (λ k. ties q (move_on number day k)) (sym (tells_apart places_exact q k one))
          ∙ (λ i. ties q (if its i && after i then (suc number, q.1) else q)) ∙ itself q

  -- The rows of the closed periods, of the open one, and of the one that it becomes and the next:
  -- what is dated after the day is in the next one, and the rest stays.
  module _ (past : List (List (RowKey × ChargeRow)))
      (open_rows closed_rows next_rows : List (RowKey × ChargeRow))
      (is : number ≡ 1 + length past)
      (later : (k : RowKey) → int_lt day k.day ≡ true → find by_key k next_rows
      ≡ find by_key k open_rows)
      (none : (k : RowKey) → int_lt day k.day ≡ false → find by_key k next_rows ≡ None)
      (gone : (k : RowKey) → int_lt day k.day ≡ true → find by_key k closed_rows ≡ None)
      (stays : (k : RowKey) → int_lt day k.day ≡ false → find by_key k closed_rows
      ≡ find by_key k open_rows) where
    -- the table before, and what it has of closed periods
    abbrev before : DayTable
    before = from_entries (numbered 1 (past ++ open_rows ∷ []))

    abbrev in_past : ℕ × RowKey → Option ChargeRow
    in_past q = find (by_period by_key) q (numbered 1 past)

    -- what the closed periods have with one more
    found : (rows : List (RowKey × ChargeRow)) (q : ℕ × RowKey)
        → find (by_period by_key) q (numbered 1 (past ++ rows ∷ []))
        ≡ cond (q.0 == number) (find by_key q.1 rows) (in_past q)
    found rows q =
        find-last by_key q 1 number past rows is
        ∙ ap (λ b. cond b (find by_key q.1 rows) (in_past q)) (unsigned_tied q.0 number)

    one_more : (rows : List (RowKey × ChargeRow)) → suc number ≡ 1 + length (past ++ rows ∷ [])
    one_more rows =
        let longer = length-append past (rows ∷ []) in
        let one : length (rows ∷ []) ≡ 1 = refl in
        omega arith

    -- what the table before has,
    get-before : (q : ℕ × RowKey) (own : Bool) → (q.0 == number) ≡ own
        → cond own (find by_key q.1 open_rows) (in_past q) ≡ get before q
    get-before q own its =
        sym (get-from_entries places_total (numbered 1 (past ++ open_rows ∷ [])) q
        ∙ found open_rows q ∙ ap (λ b. cond b (find by_key q.1 open_rows) (in_past q)) its)

    -- of the next period nothing
    below : (k : ℕ × RowKey) → contains_key before k ≡ true → (k.0 == suc number) ≡ false
    below k there =
        let rows = numbered 1 (past ++ open_rows ∷ []) in
        false_from_ne_true (k.0 == suc number) (λ same. true≢false (sym there ∙ ap is_some
        (get-from_entries places_total rows k
        ∙ ap (find (by_period by_key) k) (sym (numbered-nothing 1 (past ++ open_rows ∷ [])))
        ∙ find-last by_key k 1 (suc number) (past ++ open_rows ∷ []) [] (one_more open_rows)
        ∙ ap (λ b. cond b None (find (by_period by_key) k rows))
        (unsigned_tied k.0 (suc number) ∙ same))))

    -- the law of the move
    pub rows-moved : from_entries {R = by_period by_key}
        (numbered 1 ((past ++ closed_rows ∷ []) ++ next_rows ∷ []))
        ≡ moved (move_on number day) before
    rows-moved =
        let rows = numbered 1 ((past ++ closed_rows ∷ []) ++ next_rows ∷ []) in
        same_map places_total places_exact (from_entries rows) (moved (move_on number day) before)
        (λ q.
        get-from_entries places_total rows q
        ∙ find-last by_key q 1 (suc number) (past ++ closed_rows ∷ []) next_rows
        (one_more closed_rows)
        ∙ (λ i. cond (unsigned_tied q.0 (suc number) i) (find by_key q.1 next_rows)
        (found closed_rows q i))
        ∙ by_tests q (q.0 == suc number) (q.0 == number) (int_lt day q.1.day) refl refl
        ∙ sym (get-moved places_total places_exact (move_on number day) q (source q) before
        (λ k there. tie q k (below k there))))
      where
        by_tests : (q : ℕ × RowKey) (next own late : Bool) → (q.0 == number) ≡ own
            → int_lt day q.1.day ≡ late
            → cond next (find by_key q.1 next_rows)
            (cond own (find by_key q.1 closed_rows) (in_past q))
            ≡ option_and_then (get before) (source_by next own late q)
        by_tests q true own true its after =
            later q.1 after ∙ get-before (number, q.1) true (eq-eqb number number refl)
        by_tests q true own false its after = none q.1 after
        by_tests q false true true its after = gone q.1 after
        by_tests q false true false its after = stays q.1 after ∙ get-before q true its
        by_tests q false false late its after = get-before q false its
