use Rattle.std.proofs.Common.{append_assoc}
use Rattle.page_texts.specs.Bars.{bar}
use Rattle.page_texts.proofs.bars.push_bar.Goals as goal

pub returns : goal.returns
unfolding bar
returns c =
    rw (
      c.push_str-5.ensures,
      c.push_cost_title.ensures,
      c.push_str-4.ensures,
      c.push_number-3.ensures,
      c.push_str-3.ensures,
      c.push_number-2.ensures,
      c.push_str-2.ensures,
      c.push_number.ensures,
      c.push_str.ensures,
    )
    (simp append_assoc)
