use Rattle.std.proofs.Common.{◌∙◌, ◌++◌, ap, flat_map, take_all, w32}
use Rattle.std.proofs.lemmas.Int.{to_z-of_z}
use Rattle.bill_texts.specs.BillTables.{percent_rows}
use Rattle.bill_texts.proofs.bill_tables.add_percents.Goals as goal

-- the rows of all shifts are there
pub returns : goal.returns
returns c =
    let day = to_z-of_z w32 c.args.day c.ranges.day in
    let all = ap (λ shifts. c.args.table.now
    ++ flat_map (percent_rows c.args.period c.args.centre c.args.day) shifts)
    (take_all c.loop-shift.shift-index c.args.shifts.now c.loop-shift-test.false) in
    (rw day at c.loop-shift.invariant) ∙ all
