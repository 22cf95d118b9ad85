use Rattle.std.proofs.Common.{◌∙◌, ◌++◌, ◌∷◌, [], ◌≤ℤ◌, ◌<ℤ◌, ap, arith}
use Rattle.std.proofs.lemmas.Int.{ints, to_z-of_z}
use Rattle.std.specs.Int.{w32}
use Rattle.coverage_texts.proofs.CoverageLemmas.{gap_smaller}
use Rattle.page_texts.proofs.DayLemmas.{day_joined, no_day_left}
use Rattle.page_texts.specs.Figures.{day_cost}
use Rattle.page_texts.proofs.figures.costs_through.Goals as goal

-- its cost joins
pub loop-day-preserved : goal.loop-day-preserved
loop-day-preserved c =
    let test = c.loop-day-test.true in
    let within : c.loop-day.day ≤ℤ c.args.last = grind (arith, ints, test) in
    let first = to_z-of_z w32 c.args.first c.ranges.first in
    let last = to_z-of_z w32 c.args.last c.ranges.last in
    let after = to_z-of_z w32 c.day_after-day.result (record { sfits = c.day_after-day.type_inv }) in
    let pushed = c.in_ok-push.ensures.items
    ∙ ap (λ one. c.loop-day.costs.items ++ one ∷ []) (rw c.loop-day.day-is at c.day_cost.ensures) in
    rw (first, last, after)
    (day_joined (day_cost c.args.sums.now.entries) c.loop-day.costs.items _ _
    c.loop-day.day c.day_after-day.result c.args.last within
    (rw c.loop-day.day-is at c.day_after-day.ensures) pushed
    (rw (first, last, c.loop-day.day-is) at c.loop-day.invariant))

-- and one day less is left
pub loop-day-smaller : goal.loop-day-smaller
loop-day-smaller c =
    let test = c.loop-day-test.true in
    let within : c.loop-day.day ≤ℤ c.args.last = grind (arith, ints, test) in
    let last = to_z-of_z w32 c.args.last c.ranges.last in
    let after = to_z-of_z w32 c.day_after-day.result (record { sfits = c.day_after-day.type_inv }) in
    rw (last, after, c.loop-day.day-is)
    (gap_smaller c.loop-day.day c.day_after-day.result c.args.last within
    (rw c.loop-day.day-is at c.day_after-day.ensures))

-- or none is left
pub returns : goal.returns
returns c =
    let test = c.loop-day-test.false in
    let over : c.args.last <ℤ c.loop-day.day = grind (arith, ints, test) in
    let first = to_z-of_z w32 c.args.first c.ranges.first in
    let last = to_z-of_z w32 c.args.last c.ranges.last in
    no_day_left (day_cost c.args.sums.now.entries) c.loop-day.costs.items _
    c.loop-day.day c.args.last over (rw (first, last, c.loop-day.day-is) at c.loop-day.invariant)
