use Rattle.std.proofs.Common.{◌∙◌, ap, take, w32, take_all}
use Rattle.book_model.proofs.Std.{to_z-of_z}
use Rattle.report_texts.specs.Figures.{record_count_from}
use Rattle.report_texts.proofs.figures.record_count_from.Goals as goal

pub returns : goal.returns
returns c =
    let rows = c.args.rows.now in
    c.loop-row.invariant
    ∙ ap (λ day. record_count_from day (take c.loop-row.row-index rows))
    (to_z-of_z w32 c.args.day c.ranges.day)
    ∙ ap (record_count_from c.args.day)
    (take_all c.loop-row.row-index rows c.loop-row-test.false)
