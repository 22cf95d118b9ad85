-- The first day of the tariff that begins after a day, with one more tariff.
use Rattle.std.proofs.Common.{◌≡◌, ℕ, ℤ, List, [], ◌∷◌, ◌++◌, Option, Some, None, refl, int_lt}
use Rattle.std.proofs.Common.{true, false, if◌then◌else◌}
use Rattle.book_model.specs.Words.{RulingSeen, TariffSeen}
use Rattle.report_texts.specs.Figures.{next_begin}
use Rattle.book_reports.specs.NextTariffs.{next_with}

pub next_more : (day : ℤ) (read : List RulingSeen) (first : ℤ) (text : List ℕ)
    → next_begin day (read ++ TariffSeen first text ∷ []) ≡ next_with (next_begin day read) day first
next_more day [] first text = refl
next_more day (TariffSeen own its ∷ later) first text =
    elim (int_lt day own) as (λ b.
    (if b then Some own else next_begin day (later ++ TariffSeen first text ∷ []))
    ≡ next_with (if b then Some own else next_begin day later) day first) [
      | true ↦ refl
      | false ↦ next_more day later first text
    ]
next_more day (other ∷ later) first text = next_more day later first text
