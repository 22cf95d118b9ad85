use Rattle.std.proofs.Common.{append_assoc}
use Rattle.bill_pages.specs.SheetPages.{record_page}
use Rattle.bill_pages.proofs.sheet_pages.push_record.Goals as goal

pub returns : goal.returns
unfolding record_page
returns c =
    rw (
      c.push_str-3.ensures,
      c.push_escaped.ensures,
      c.text_at.ensures,
      c.push_str-2.ensures,
      c.push_words.ensures,
      c.push_str.ensures,
    )
    (simp append_assoc)
