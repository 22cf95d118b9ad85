use Rattle.std.proofs.Common.{append-nil, append_assoc}
use Rattle.page_texts.specs.PeriodHead.{period_head}
use Rattle.page_texts.proofs.period_head.push_period_head.Goals as goal

pub returns : goal.returns
unfolding period_head
returns c =
    rw (
      c.push_period_sums.ensures,
      c.push_str-4.ensures,
      c.push_head.ensures,
      c.push_str-3.ensures,
      c.push_draft.ensures,
      c.push_str-2.ensures,
      c.push_office_name.ensures,
      c.push_str.ensures,
    )
    (simp (append_assoc, append-nil))
