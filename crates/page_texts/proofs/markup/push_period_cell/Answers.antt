use Rattle.std.proofs.Common.{append_assoc}
use Rattle.page_texts.specs.Markup.{cell, period_link}
use Rattle.page_texts.proofs.markup.push_period_cell.Goals as goal

pub returns : goal.returns
unfolding cell period_link
returns c =
    rw (
      c.push_str-3.ensures,
      c.push_number-2.ensures,
      c.push_str-2.ensures,
      c.push_number.ensures,
      c.push_str.ensures,
    )
    (simp append_assoc)
