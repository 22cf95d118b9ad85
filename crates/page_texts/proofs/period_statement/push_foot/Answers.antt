use Rattle.std.proofs.Common.{append_assoc}
use Rattle.page_texts.specs.Frame.{table_foot}
use Rattle.page_texts.specs.Markup.{table_row}
use Rattle.page_texts.specs.PeriodTables.{statement_foot}
use Rattle.page_texts.proofs.period_statement.push_foot.Goals as goal

pub returns : goal.returns
unfolding statement_foot table_foot table_row
returns c =
    rw (
      c.push_str-2.ensures,
      c.push_money_cell.ensures,
      c.push_number_cell-2.ensures,
      c.push_seconds_cell.ensures,
      c.push_number_cell.ensures,
      c.push_cell-3.ensures,
      c.push_cell-2.ensures,
      c.push_cell.ensures,
      c.push_str.ensures,
      c.row_sums-count.ensures,
    )
    (simp append_assoc)
