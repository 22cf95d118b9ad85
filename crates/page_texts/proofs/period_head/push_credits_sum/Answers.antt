use Rattle.std.proofs.Common.{append_assoc}
use Rattle.page_texts.specs.PeriodHead.{credits_sum}
use Rattle.page_texts.proofs.period_head.push_credits_sum.Goals as goal

pub returns : goal.returns
unfolding credits_sum
returns c =
    rw (c.push_str-2.ensures, c.push_credits.ensures, c.push_str.ensures) (simp append_assoc)
