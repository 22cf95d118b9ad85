use Rattle.std.proofs.Common.{append_assoc}
use Rattle.bill_pages.specs.BillPages.{centre_links}
use Rattle.bill_pages.proofs.bill_pages.push_centre_links.Goals as goal

pub returns : goal.returns
unfolding centre_links
returns c =
    rw (
      c.push_str-3.ensures,
      c.push_bill_path.ensures,
      c.push_str-2.ensures,
      c.push_number.ensures,
      c.from.ensures,
      c.push_str.ensures,
    )
    (simp append_assoc)
