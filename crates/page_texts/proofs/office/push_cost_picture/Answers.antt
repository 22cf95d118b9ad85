use Rattle.std.proofs.Common.{append_assoc}
use Rattle.page_texts.specs.Bars.{picture}
use Rattle.page_texts.proofs.office.push_cost_picture.Goals as goal

pub returns : goal.returns
unfolding picture
returns c =
    rw (
      c.push_str-4.ensures,
      c.push_centre_bars.ensures,
      c.push_str-3.ensures,
      c.push_number.ensures,
      c.push_str-2.ensures,
      c.push_str.ensures,
    )
    (simp append_assoc)
