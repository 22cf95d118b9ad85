use Rattle.std.proofs.Common.{append_assoc}
use Rattle.page_texts.specs.Frame.{page_start}
use Rattle.page_texts.proofs.frame.push_page_start.Goals as goal

pub returns : goal.returns
unfolding page_start
returns c =
    rw (
      c.push_str-2.ensures,
      c.push_style.ensures,
      c.push_str.ensures,
      c.push_draft.ensures,
      c.push_head_start.ensures,
    )
    (simp append_assoc)
