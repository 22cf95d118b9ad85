use Rattle.std.proofs.Common.{◌∙◌, ◌-◌, ℤ, ap, w32}
use Rattle.book_model.proofs.Std.{to_z-of_z}
use Rattle.report_texts.specs.Figures.{record_count_from}
use Rattle.report_texts.proofs.figures.record_count_under.Goals as goal

pub returns : goal.returns
returns c =
    let rows = c.args.rows.now in
    let first = c.record_count_from.ensures
    ∙ ap (λ (day : ℤ). record_count_from day rows) (to_z-of_z w32 c.args.first c.ranges.first) in
    c.saturating_sub.ensures ∙ (λ i. first i - c.count_after.ensures i)
