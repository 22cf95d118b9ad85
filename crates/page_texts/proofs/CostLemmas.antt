-- What keys cost, one charge row more at a time.
use Rattle.std.proofs.Common.{◌≡◌, ◌∙◌, ℕ, ◌+◌, ◌<◌, ◌≤◌, Bool, List, [], ◌∷◌, ◌++◌, ap, arith}
use Rattle.std.proofs.Common.{get_or, length, map, sym, take, unwrap_or}
use Rattle.std.specs.Prelude.{filter, sum_by}
use Rattle.std.specs.BTreeMap.{insert_entry, is_at}
use Rattle.std.specs.Cmp.{IsTotalOrder}
use Rattle.std.specs.FinMap as finite
use Rattle.std.specs.Map.{lookup}
use Rattle.std.specs.Ordering.{eq_by_cmp}
use Rattle.std.specs.declared.cmp.Ordering.{Ordering}
use Rattle.std.proofs.lemmas.List.{take_more}
use Rattle.std.proofs.lemmas.List.Sums.{sum_by_more_le, sum_by_push}
use Rattle.book_core.proofs.GroupLemmas.{groups-none, groups-push, lookup-groups}
use Rattle.book_model.specs.declared.row.ChargeRow.{ChargeRow}
use Rattle.book_model.specs.Words.{members, set_of}
use Rattle.report_texts.proofs.CentreLemmas.{filter_most}

-- what rows come to
abbrev amount_of : List ChargeRow → ℕ
amount_of rows = sum_by (λ row. row.amount) rows

module _ {K : Type 0} {R : K → K → Ordering} (o : IsTotalOrder R)
    (exact : finite.IsAntisymmetric R) {same : K → K → Bool}
    (ties : (a b : K) → same a b ≡ eq_by_cmp R a b) (key : ChargeRow → K) where
  -- the rows of a key
  abbrev of_key : List ChargeRow → K → List ChargeRow
  of_key rows k = filter (λ row. same (key row) k) rows

  -- what each key costs
  abbrev pub key_costs : List ChargeRow → List (K × ℕ)
  key_costs rows = map (λ k. (k, amount_of (of_key rows k))) (members (set_of R (map key rows)))

  pub key_costs-none : key_costs [] ≡ []
  key_costs-none = groups-none o exact ties key (λ k rows. amount_of rows)

  -- a key finds there what it costs, nothing where it has no row
  pub cost_found : (rows : List ChargeRow) (k : K)
      → unwrap_or (lookup (is_at (R k)) (key_costs rows)) 0 ≡ amount_of (of_key rows k)
  cost_found rows k = lookup-groups o exact ties key (λ k rows. amount_of rows) rows k

  -- what a key costs so far
  so_far : (rows : List ChargeRow) (k : K) (costs : List (K × ℕ)) (cost : ℕ)
      → costs ≡ key_costs rows → cost ≡ unwrap_or (lookup (is_at (R k)) costs) 0
      → cost ≡ amount_of (of_key rows k)
  so_far rows k costs cost kept found =
      found ∙ ap (λ all. unwrap_or (lookup (is_at (R k)) all) 0) kept
      ∙ cost_found rows k

  -- with the next row it costs no more than all rows
  pub cost_fits : (rows : List ChargeRow) (i : ℕ) (row : ChargeRow) (costs : List (K × ℕ))
      (cost : ℕ) → i < length rows → row ≡ get_or rows i row → costs ≡ key_costs (take i rows)
      → cost ≡ unwrap_or (lookup (is_at (R (key row))) costs) 0
      → cost + row.amount ≤ amount_of rows
  cost_fits rows i row costs cost inside is kept found =
      let own = so_far (take i rows) (key row) costs cost kept found in
      let most = filter_most (λ one. same (key one) (key row)) (λ one. one.amount) (take i rows) in
      let more = sum_by_more_le (λ one. one.amount) rows i row inside in
      let next = ap (λ (one : ChargeRow). one.amount) is in
      omega arith

  -- the next row joins what its key costs
  pub key_costs-more : (rows : List ChargeRow) (i : ℕ) (row : ChargeRow) (costs : List (K × ℕ))
      (cost : ℕ) → i < length rows → row ≡ get_or rows i row → costs ≡ key_costs (take i rows)
      → cost ≡ unwrap_or (lookup (is_at (R (key row))) costs) 0
      → insert_entry R costs (key row) (cost + row.amount) ≡ key_costs (take (i + 1) rows)
  key_costs-more rows i row costs cost inside is kept found =
      let own = so_far (take i rows) (key row) costs cost kept found in
      let here = of_key (take i rows) (key row) in
      (λ j. insert_entry R (kept j) (key row) (own j + row.amount))
      ∙ ap (insert_entry R (key_costs (take i rows)) (key row))
      (sym (sum_by_push (λ one. one.amount) here row))
      ∙ sym (groups-push o exact ties key (λ k rows. amount_of rows) (take i rows) row)
      ∙ ap (λ next. key_costs (take i rows ++ next ∷ [])) is
      ∙ ap key_costs (sym (take_more rows i row inside))
