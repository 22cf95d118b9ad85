use Rattle.std.proofs.Common.{append_assoc}
use Rattle.bill_pages.specs.BillPages.{links_start}
use Rattle.bill_pages.proofs.bill_pages.push_links_start.Goals as goal

pub returns : goal.returns
unfolding links_start
returns c =
    rw (
      c.push_str-3.ensures,
      c.push_number-2.ensures,
      c.from-2.ensures,
      c.push_str-2.ensures,
      c.push_number.ensures,
      c.from.ensures,
      c.push_str.ensures,
    )
    (simp append_assoc)
