use Rattle.std.proofs.Common.{append_assoc}
use Rattle.page_texts.specs.Markup.{bill_link}
use Rattle.page_texts.proofs.office.push_bill_link.Goals as goal

pub returns : goal.returns
unfolding bill_link
returns c =
    rw (
      c.push_str-3.ensures,
      c.push_owed.ensures,
      c.push_str-2.ensures,
      c.push_number.ensures,
      c.push_str.ensures,
    )
    (simp append_assoc)
