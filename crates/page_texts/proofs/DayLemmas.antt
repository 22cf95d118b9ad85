-- The days of rows, one after another, and what each of them costs.
use Rattle.std.proofs.Common.{◌≡◌, ◌∙◌, ℕ, ◌-◌, ℤ, pos, ◌+ℤ◌, ◌≤ℤ◌, ◌<ℤ◌, List, [], ◌∷◌, ◌++◌, map}
use Rattle.std.proofs.Common.{ap, append-nil, append_assoc, length, option_map, refl, slice_get, subst}
use Rattle.std.proofs.Common.{sym, unwrap_or, Option, Some, None, IfSome}
use Rattle.std.specs.Prelude.{All}
use Rattle.std.specs.BTreeMap.{is_at}
use Rattle.std.specs.Map.{lookup}
use Rattle.std.specs.Ordering.{int_cmp}
use Rattle.std.proofs.lemmas.Cmp.{int_cmp_total}
use Rattle.std.proofs.lemmas.List.Elements.{All-map}
use Rattle.std.proofs.lemmas.Map.Lookups.{exact_signed}
use Rattle.smf_text.specs.Day.{first_day, last_day}
use Rattle.book_model.proofs.Std.{get_or_from_slice_get, slice_get_within}
use Rattle.book_model.specs.declared.row.ChargeRow.{ChargeRow}
use Rattle.book_model.specs.Words.{IsDay}
use Rattle.coverage_texts.proofs.CoverageLemmas.{days_shown, days_through, next_day, no_day}
use Rattle.coverage_texts.specs.Coverage.{days_between}
use Rattle.page_texts.proofs.CostLemmas.{cost_found}
use Rattle.page_texts.specs.Figures.{cost_on, costs_by_day, day_cost, first_on, last_on, sums_by_day}

module _ {X : Type 0} (f : ℤ → X) where
  -- what one more day is joins the others
  pub day_joined : (made more all : List X) (day after last : ℤ) → day ≤ℤ last
      → after ≡ day +ℤ pos 1 → more ≡ made ++ f day ∷ []
      → made ++ map f (days_through day last) ≡ all
      → more ++ map f (days_through after last) ≡ all
  day_joined made more all day after last within is grown kept =
      (λ i. grown i ++ map f (days_through (is i) last))
      ∙ append_assoc made (f day ∷ []) (map f (days_through (day +ℤ pos 1) last))
      ∙ ap (λ days. made ++ map f days) (sym (next_day day last within))
      ∙ kept

  -- or these are all
  pub no_day_left : (made all : List X) (day last : ℤ) → last <ℤ day
      → made ++ map f (days_through day last) ≡ all → made ≡ all
  no_day_left made all day last over kept =
      sym (append-nil made)
      ∙ ap (λ days. made ++ map f days) (sym (no_day day last over))
      ∙ kept

-- a day costs what its rows come to, and nothing where it has none
pub costs_known : (rows : List ChargeRow) (days : List ℤ)
    → map (day_cost (sums_by_day rows)) days ≡ map (λ day. (day, cost_on rows day)) days
costs_known rows days = λ i. map (λ day. (day, known day i)) days
  where
    known : (day : ℤ)
        → unwrap_or (lookup (is_at (int_cmp day)) (sums_by_day rows)) 0 ≡ cost_on rows day
    known day =
        cost_found int_cmp_total exact_signed (λ a b. refl) (λ (row : ChargeRow). row.day) rows day

-- the day of a row that is found is a day
row_dated : (rows : List ChargeRow) → All (λ row. IsDay row.day) rows → (i : ℕ)
    (found : Option ChargeRow) → slice_get rows i ≡ found
    → IfSome (option_map (λ row. row.day) found) IsDay
row_dated rows dated i None is = tt
row_dated rows dated i (Some row) is =
    subst (λ (one : ChargeRow). IsDay one.day) (get_or_from_slice_get rows i row row is)
    (dated i row (slice_get_within rows i row is))

-- so the first row has none before the first day, and the last row none after the last
first_late : (day : Option ℤ) → IfSome day IsDay → IfSome day (λ first. first_day ≤ℤ first)
first_late None is = tt
first_late (Some day) is = is.0

last_early : (day : Option ℤ) → IfSome day IsDay → IfSome day (λ last. last ≤ℤ last_day)
last_early None is = tt
last_early (Some day) is = is.1

pub last_dated : (rows : List ChargeRow) → All (λ row. IsDay row.day) rows
    → IfSome (last_on rows) (λ last. last ≤ℤ last_day)
last_dated rows dated =
    last_early (last_on rows)
    (row_dated rows dated (length rows - 1) (slice_get rows (length rows - 1)) refl)

-- all that cost something are days
pub days_dated : (rows : List ChargeRow) → All (λ row. IsDay row.day) rows
    → All (λ cost. IsDay cost.0) (costs_by_day rows)
days_dated rows dated =
    All-map (λ (cost : ℤ × ℕ). IsDay cost.0) (λ day. (day, cost_on rows day))
    (days_between (first_on rows) (last_on rows))
    (days_shown (first_on rows) (last_on rows)
    (first_late (first_on rows) (row_dated rows dated 0 (slice_get rows 0) refl))
    (last_dated rows dated))
