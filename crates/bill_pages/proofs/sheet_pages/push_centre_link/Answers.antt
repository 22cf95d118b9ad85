use Rattle.std.proofs.Common.{append_assoc}
use Rattle.bill_pages.specs.SheetPages.{centre_link}
use Rattle.bill_pages.proofs.sheet_pages.push_centre_link.Goals as goal

pub returns : goal.returns
unfolding centre_link
returns c =
    rw (
      c.push_str-4.ensures,
      c.push_escaped-2.ensures,
      c.text_at-2.ensures,
      c.push_str-3.ensures,
      c.push_escaped.ensures,
      c.text_at.ensures,
      c.push_str-2.ensures,
      c.push_number.ensures,
      c.from.ensures,
      c.push_str.ensures,
    )
    (simp append_assoc)
