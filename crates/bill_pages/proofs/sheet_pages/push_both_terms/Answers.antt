use Rattle.std.proofs.Common.{append_assoc}
use Rattle.bill_pages.specs.SheetPages.{both_terms}
use Rattle.bill_pages.proofs.sheet_pages.push_both_terms.Goals as goal

pub returns : goal.returns
unfolding both_terms
returns c =
    rw (
      c.push_str-2.ensures,
      c.push_part-2.ensures,
      c.push_part.ensures,
      c.push_str.ensures,
    )
    (simp append_assoc)
