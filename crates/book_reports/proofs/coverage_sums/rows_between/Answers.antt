use Rattle.std.proofs.Common.{◌≤ℤ◌, ◌<ℤ◌, arith}
use Rattle.std.proofs.lemmas.Int.{ints, to_z-of_z}
use Rattle.std.specs.Int.{w32}
use Rattle.coverage_texts.proofs.CoverageLemmas.{all_made, day_made, gap_smaller}
use Rattle.book_reports.specs.CoverageSums.{rows_on}
use Rattle.book_reports.proofs.coverage_sums.rows_between.Goals as goal

-- its rows are made
pub loop-day-preserved : goal.loop-day-preserved
loop-day-preserved c =
    let test = c.loop-day-test.true in
    let within : c.loop-day.day ≤ℤ c.args.last = grind (arith, ints, test) in
    let first = to_z-of_z w32 c.args.first c.ranges.first in
    let last = to_z-of_z w32 c.args.last c.ranges.last in
    let after = to_z-of_z w32 c.day_after-day.result (record { sfits = c.day_after-day.type_inv }) in
    rw (first, last, after)
    (day_made (rows_on c.args.rows.now.entries c.args.systems.now) c.loop-day.made.items _ _
    c.loop-day.day c.day_after-day.result c.args.last within
    (rw c.loop-day.day-is at c.day_after-day.ensures)
    (rw c.loop-day.day-is at c.in_ok-push_day.ensures)
    (rw (first, last, c.loop-day.day-is) at c.loop-day.invariant))

-- and one day less is left
pub loop-day-smaller : goal.loop-day-smaller
loop-day-smaller c =
    let test = c.loop-day-test.true in
    let within : c.loop-day.day ≤ℤ c.args.last = grind (arith, ints, test) in
    let last = to_z-of_z w32 c.args.last c.ranges.last in
    let after = to_z-of_z w32 c.day_after-day.result (record { sfits = c.day_after-day.type_inv }) in
    rw (last, after, c.loop-day.day-is)
    (gap_smaller c.loop-day.day c.day_after-day.result c.args.last within
    (rw c.loop-day.day-is at c.day_after-day.ensures))

-- or none is left
pub returns : goal.returns
returns c =
    let test = c.loop-day-test.false in
    let over : c.args.last <ℤ c.loop-day.day = grind (arith, ints, test) in
    let first = to_z-of_z w32 c.args.first c.ranges.first in
    let last = to_z-of_z w32 c.args.last c.ranges.last in
    all_made (rows_on c.args.rows.now.entries c.args.systems.now) c.loop-day.made.items _
    c.loop-day.day c.args.last over (rw (first, last, c.loop-day.day-is) at c.loop-day.invariant)
