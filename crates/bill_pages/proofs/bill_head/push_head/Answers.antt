use Rattle.std.proofs.Common.{append_assoc}
use Rattle.bill_pages.specs.BillPages.{head_page}
use Rattle.bill_pages.proofs.bill_head.push_head.Goals as goal

pub returns : goal.returns
unfolding head_page
returns c =
    rw (
      c.push_str-6.ensures,
      c.push_state.ensures,
      c.push_str-5.ensures,
      c.push_first.ensures,
      c.push_number.ensures,
      c.from.ensures,
      c.push_str-4.ensures,
      c.push_centre.ensures,
      c.push_str-3.ensures,
      c.push_draft.ensures,
      c.push_str-2.ensures,
      c.push_office_name.ensures,
      c.push_str.ensures,
    )
    (simp append_assoc)
