use Rattle.std.proofs.Common.{◌∙◌, ap, fold, take_all, w32}
use Rattle.std.proofs.lemmas.Int.{to_z-of_z}
use Rattle.bill_texts.specs.WorkRows.{percent_by, percent_on}
use Rattle.bill_texts.proofs.work_rows.percent_on.Goals as goal

-- it is that of the last entry of all
pub returns : goal.returns
unfolding percent_on
returns c =
    let day = to_z-of_z w32 c.args.day c.ranges.day in
    let all = ap (fold (percent_by c.args.day c.args.name) 0)
    (take_all c.loop-shift.shift-index c.args.shifts.now c.loop-shift-test.false) in
    (rw day at c.loop-shift.invariant) ∙ all
