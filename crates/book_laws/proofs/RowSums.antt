-- Charge rows sum what all prices sum to.
use Rattle.std.proofs.Common.{◌≡◌, ℕ, ◌+◌, List, [], ◌∷◌, refl, sym, ap, ◌∙◌, true, false, Bool}
use Rattle.std.proofs.Common.{cond, map, arith, filter, sum_by}
use Rattle.book_model.proofs.Std.{list_any, fold-map, sum_by-cons, tells_apart}
use Rattle.book_model.specs.Words.{Priced, charged_at, key_of, keys_of, row_at, rows_of, same_bytes}
use Rattle.book_model.specs.Words.{row_key, same_key}
use Rattle.book_model.proofs.Lemmas.{by_key_exact, by_key_total, same_key_ties, list_any-map}
use Rattle.book_model.proofs.Lemmas.{any_tied-members, sum_by-filter, sum_by-keys}
use Rattle.book_model.proofs.RowLemmas.{same_key_is, same_key_laws, keys_distinct}
use Rattle.book_laws.proofs.Words.{ChargeRow, RowKey, rows_of_centre}

-- the sums of each row over the prices at its key are over all rows the sum of all prices
pub sum_by-rows : (g : ChargeRow → ℕ) (f : Priced → ℕ) (priced : List Priced)
    → ((key : RowKey) → g (row_at priced key) ≡ sum_by f (charged_at priced key))
    → sum_by g (rows_of priced) ≡ sum_by f priced
sum_by-rows g f priced each =
    let keys = keys_of priced in
    fold-map (λ n row. n + g row) (row_at priced) 0 keys
    ∙ (λ i. sum_by (λ key. each key i) keys)
    ∙ sum_by-keys same_key_laws keys (keys_distinct priced) key_of f priced
    (λ one among.
    (λ i. list_any (same_key_is i (key_of one)) keys)
    ∙ any_tied-members by_key_total (map key_of priced) (key_of one)
    ∙ (λ i. list_any (sym same_key_is i (key_of one)) (map key_of priced))
    ∙ list_any-map (same_key (key_of one)) key_of priced
    ∙ among)

-- so the rows of some prices amount to what the prices do
pub sum_by-rows_of : (priced : List Priced) → sum_by (λ row. row.amount) (rows_of priced)
    ≡ sum_by (λ one. one.amount) priced
sum_by-rows_of priced =
    sum_by-rows (λ row. row.amount) (λ one. one.amount) priced (λ key. refl)

-- one more of some numbers, of which all count or none
one_more : (passes : Bool) (n shared shared_rest all rest : ℕ)
    → shared ≡ cond passes n 0 + shared_rest → all ≡ n + rest
    → shared_rest ≡ cond passes rest 0 → shared ≡ cond passes all 0
one_more true n shared shared_rest all rest first second rests = omega arith
one_more false n shared shared_rest all rest first second rests = omega arith

module _ (f : Priced → ℕ) (passes : RowKey → Bool) (key : RowKey) where
  -- of what is charged at one place all passes a test of the place, or nothing
  at_one_place : (priced : List Priced)
      → sum_by (λ one. cond (passes (key_of one)) (f one) 0) (charged_at priced key)
      ≡ cond (passes key) (sum_by f (charged_at priced key)) 0
  at_one_place [] = elim (passes key) as (λ b. ◌≡◌ {A = ℕ} 0 (cond b 0 0)) [
    | true ↦ refl
    | false ↦ refl
  ]
  at_one_place (one ∷ priced) =
      let rest : List Priced = charged_at priced key in
      let share : Priced → ℕ = λ one. cond (passes (key_of one)) (f one) 0 in
      elim (same_key (key_of one) key) as (λ here. same_key (key_of one) key ≡ here
      → sum_by share (cond here (one ∷ rest) rest)
      ≡ cond (passes key) (sum_by f (cond here (one ∷ rest) rest)) 0) [
        | true ↦ λ same.
            let own : key_of one ≡ key =
            tells_apart by_key_exact (key_of one) key
            (sym (same_key_ties (key_of one) key) ∙ same) in
            one_more (passes key) (f one) (sum_by share (one ∷ rest)) (sum_by share rest)
            (sum_by f (one ∷ rest)) (sum_by f rest)
            (sum_by-cons share one rest
            ∙ ap (λ place. cond (passes place) (f one) 0 + sum_by share rest) own)
            (sum_by-cons f one rest) (at_one_place priced)
        | false ↦ λ other. at_one_place priced
      ] refl

-- so what the rows sum at places that pass a test is what is charged there
pub sum_by-some_rows : (g : ChargeRow → ℕ) (f : Priced → ℕ) (passes : RowKey → Bool)
    (priced : List Priced)
    → ((key : RowKey) → g (row_at priced key) ≡ sum_by f (charged_at priced key))
    → sum_by (λ row. cond (passes (row_key row)) (g row) 0) (rows_of priced)
    ≡ sum_by (λ one. cond (passes (key_of one)) (f one) 0) priced
sum_by-some_rows g f passes priced each =
    sum_by-rows (λ row. cond (passes (row_key row)) (g row) 0)
    (λ one. cond (passes (key_of one)) (f one) 0) priced
    (λ key. ap (λ n. cond (passes key) n 0) (each key) ∙ sym (at_one_place f passes key priced))

-- and the rows of a centre sum what is charged to it
pub sum_by-centre_rows :
    (g : ChargeRow → ℕ) (f : Priced → ℕ) (centre : List ℕ) (priced : List Priced)
    → ((key : RowKey) → g (row_at priced key) ≡ sum_by f (charged_at priced key))
    → sum_by g (rows_of_centre centre (rows_of priced))
    ≡ sum_by f (filter (λ one. same_bytes one.centre centre) priced)
sum_by-centre_rows g f centre priced each =
    sum_by-filter g (λ row. same_bytes row.centre centre) (rows_of priced)
    ∙ sum_by-some_rows g f (λ key. same_bytes key.centre centre) priced each
    ∙ sym (sum_by-filter f (λ one. same_bytes one.centre centre) priced)
