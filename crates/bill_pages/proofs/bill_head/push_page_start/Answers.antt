use Rattle.std.proofs.Common.{append_assoc}
use Rattle.bill_pages.specs.BillPages.{page_start}
use Rattle.bill_pages.proofs.bill_head.push_page_start.Goals as goal

pub returns : goal.returns
unfolding page_start
returns c =
    rw (
      c.push_str-3.ensures,
      c.push_draft-2.ensures,
      c.push_str-2.ensures,
      c.push_credit_style.ensures,
      c.push_bill_style.ensures,
      c.push_str.ensures,
      c.push_draft.ensures,
      c.push_head_start.ensures,
    )
    (simp append_assoc)
