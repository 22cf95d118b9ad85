use Rattle.std.proofs.Common.{append_assoc}
use Rattle.page_texts.specs.PeriodHead.{gaps_figure}
use Rattle.page_texts.proofs.period_head.push_gaps_figure.Goals as goal

pub returns : goal.returns
unfolding gaps_figure
returns c =
    rw (c.push_str-2.ensures, c.push_gaps.ensures, c.push_str.ensures) (simp append_assoc)
