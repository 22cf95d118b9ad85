use Rattle.std.proofs.Common.{append_assoc}
use Rattle.page_texts.specs.Markup.{cell, record_link}
use Rattle.page_texts.proofs.markup.push_record_cell.Goals as goal

pub returns : goal.returns
unfolding cell record_link
returns c =
    rw (
      c.push_str-3.ensures,
      c.push_lower_hex-2.ensures,
      c.push_str-2.ensures,
      c.push_lower_hex.ensures,
      c.push_str.ensures,
    )
    (simp append_assoc)
