use Rattle.std.proofs.Common.{append_assoc}
use Rattle.page_texts.specs.Bars.{bar_picture, picture}
use Rattle.page_texts.proofs.bars.push_bar_picture.Goals as goal

pub returns : goal.returns
unfolding bar_picture picture
returns c =
    rw (
      c.push_str-3.ensures,
      c.push_bar.ensures,
      c.push_str-2.ensures,
      c.push_cost_title.ensures,
      c.push_str.ensures,
    )
    (simp append_assoc)
