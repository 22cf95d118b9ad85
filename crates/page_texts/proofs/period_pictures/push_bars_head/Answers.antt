use Rattle.std.proofs.Common.{append_assoc}
use Rattle.page_texts.specs.PeriodPictures.{bars_head}
use Rattle.page_texts.proofs.period_pictures.push_bars_head.Goals as goal

pub returns : goal.returns
unfolding bars_head
returns c =
    rw (
      c.push_str-5.ensures,
      c.push_str-4.ensures,
      c.push_str-3.ensures,
      c.push_str-2.ensures,
      c.push_str.ensures,
    )
    (simp append_assoc)
