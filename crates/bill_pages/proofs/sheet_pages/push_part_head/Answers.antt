use Rattle.std.proofs.Common.{append_assoc}
use Rattle.bill_pages.specs.SheetPages.{part_head}
use Rattle.bill_pages.proofs.sheet_pages.push_part_head.Goals as goal

pub returns : goal.returns
unfolding part_head
returns c =
    rw (
      c.push_other_headings.ensures,
      c.push_first_heading.ensures,
      c.push_str.ensures,
      c.push_title.ensures,
      c.push_table_start.ensures,
    )
    (simp append_assoc)
