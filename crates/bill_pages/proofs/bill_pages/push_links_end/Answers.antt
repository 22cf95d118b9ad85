use Rattle.std.proofs.Common.{append_assoc}
use Rattle.bill_pages.specs.BillPages.{links_end}
use Rattle.bill_pages.proofs.bill_pages.push_links_end.Goals as goal

pub returns : goal.returns
unfolding links_end
returns c =
    rw (
      c.push_str-2.ensures,
      c.push_bill_path.ensures,
      c.push_str.ensures,
    )
    (simp append_assoc)
