use Rattle.std.proofs.Common.{append_assoc}
use Rattle.page_texts.specs.OfficePage.{office_head}
use Rattle.page_texts.proofs.office.push_office_head.Goals as goal

pub returns : goal.returns
unfolding office_head
returns c =
    rw (
      c.push_str-4.ensures,
      c.push_number.ensures,
      c.push_str-3.ensures,
      c.push_currency_figure.ensures,
      c.push_str-2.ensures,
      c.push_office_name.ensures,
      c.push_str.ensures,
    )
    (simp append_assoc)
