use Rattle.std.proofs.Common.{append_assoc}
use Rattle.bill_pages.specs.BillPages.{held_page}
use Rattle.bill_pages.proofs.bill_head.push_held.Goals as goal

pub returns : goal.returns
unfolding held_page
returns c =
    rw (
      c.push_str-4.ensures,
      c.push_money-2.ensures,
      c.push_str-3.ensures,
      c.push_money.ensures,
      c.push_str-2.ensures,
      c.push_count.ensures,
      c.push_str.ensures,
      c.in-Some.is,
    )
    (simp append_assoc)
