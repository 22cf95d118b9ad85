use Rattle.std.proofs.Common.{append_assoc}
use Rattle.page_texts.specs.Frame.{table_foot}
use Rattle.page_texts.specs.Markup.{table_row}
use Rattle.page_texts.specs.PeriodTables.{adjustment_foot}
use Rattle.page_texts.proofs.period_adjustments.push_foot.Goals as goal

pub returns : goal.returns
unfolding adjustment_foot table_foot table_row
returns c =
    rw (
      c.push_str-2.ensures,
      c.push_cell-6.ensures,
      c.push_cell-5.ensures,
      c.push_signed_cell.ensures,
      c.push_cell-4.ensures,
      c.push_cell-3.ensures,
      c.push_cell-2.ensures,
      c.push_cell.ensures,
      c.push_str.ensures,
      c.figures_of-sums.ensures,
    )
    (simp append_assoc)
