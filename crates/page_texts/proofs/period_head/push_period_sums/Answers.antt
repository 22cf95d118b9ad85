use Rattle.std.proofs.Common.{append_assoc}
use Rattle.page_texts.specs.PeriodHead.{period_sums}
use Rattle.page_texts.proofs.period_head.push_period_sums.Goals as goal

pub returns : goal.returns
unfolding period_sums
returns c =
    rw (
      c.push_str-6.ensures,
      c.push_owed.ensures,
      c.push_str-5.ensures,
      c.push_credits_figure.ensures,
      c.push_str-4.ensures,
      c.push_money-3.ensures,
      c.push_str-3.ensures,
      c.push_money-2.ensures,
      c.push_str-2.ensures,
      c.push_money.ensures,
      c.push_str.ensures,
    )
    (simp append_assoc)
