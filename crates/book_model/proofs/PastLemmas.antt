-- What is past stays: no event changes a period that was closed before it.
use Rattle.std.proofs.Common.{◌≡◌, ℕ, zero, suc, ◌≤◌, ◌<◌, List, [], ◌∷◌, ◌++◌, length, refl, arith}
use Rattle.book_model.specs.Words.{Event, closes, period_after, periods, period_by}
use Rattle.book_model.proofs.HistoryLemmas.{day_stays, charged_stays}

-- no event changes a period that was closed before it
period_stays : (k : ℕ) (event : Event) (older : List Event) → k < length (closes older)
    → period_after k (event ∷ older) ≡ period_after k older
period_stays k event older came =
    let early : k ≤ length (closes older) = omega arith in
    let day = day_stays k event older early in
    let before = charged_stays k event older early in
    let charged = charged_stays (suc k) event older came in
    λ i. period_by (day i) (before i) (charged i)

-- nor any number of them
pub periods_stay : (k : ℕ) (event : Event) (older : List Event) → k ≤ length (closes older)
    → periods k (event ∷ older) ≡ periods k older
periods_stay zero event older came = refl
periods_stay (suc k) event older came =
    let first = periods_stay k event older (omega arith) in
    let last = period_stays k event older came in
    λ i. first i ++ last i ∷ []
