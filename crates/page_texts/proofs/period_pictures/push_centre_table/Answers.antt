use Rattle.std.proofs.Common.{append_assoc}
use Rattle.page_texts.specs.PeriodPictures.{centre_table}
use Rattle.page_texts.proofs.period_pictures.push_centre_table.Goals as goal

pub returns : goal.returns
unfolding centre_table
returns c =
    rw (
      c.push_table_end.ensures,
      c.push_centre_rows.ensures,
      c.push_centre_columns.ensures,
      c.push_bars_head.ensures,
    )
    (simp append_assoc)
