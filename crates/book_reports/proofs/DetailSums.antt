-- Sums with one more detail: when 64 bits hold them, and 62 bits the amount.
use Rattle.std.proofs.Common.{◌≡◌, ◌+◌, ◌<◌, ◌≤◌, ◌^◌, ap, arith}
use Rattle.book_model.specs.declared.detail.Detail.{Detail}
use Rattle.book_reports.specs.declared.streamed_details.Sums.{Sums}
use Rattle.book_reports.specs.StreamedDetails.{FitsDetail, with_detail}
use Rattle.book_reports.specs.WorkSums.{SumsFit}

-- 64 bits hold what 62 bits hold
pub fits_detail : (sums : Sums) (detail : Detail) → SumsFit (with_detail sums detail)
    → FitsDetail sums detail
fits_detail sums detail fit =
    let small : sums.amount + detail.priced.amount < 2 ^ 62 = fit.amount in
    record { count = fit.count; cpu = fit.cpu; blocks = fit.blocks; amount = omega (arith, small) }

-- 62 bits do not hold the amount
pub amount_large : (sums more : Sums) (detail : Detail) → more ≡ with_detail sums detail
    → 2 ^ 62 ≤ more.amount → SumsFit (with_detail sums detail) → ⊥
amount_large sums more detail is large fit =
    let amount = ap (λ (one : Sums). one.amount) is in
    let small = fit.amount in
    omega (arith, amount, small, large)
