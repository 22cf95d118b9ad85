use Rattle.std.proofs.Common.{append_assoc}
use Rattle.page_texts.specs.OfficePage.{legend_item}
use Rattle.page_texts.proofs.legend.push_item.Goals as goal

pub returns : goal.returns
unfolding legend_item
returns c =
    rw (
      c.push_str-3.ensures,
      c.push_escaped.ensures,
      c.push_str-2.ensures,
      c.push_number.ensures,
      c.colour_of.ensures,
      c.push_str.ensures,
      c.text.ensures.value,
    )
    (simp append_assoc)
