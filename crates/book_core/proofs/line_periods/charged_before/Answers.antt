use Rattle.std.proofs.Common.{◌∙◌}
use Rattle.book_core.proofs.LastCharges.{charged_more}
use Rattle.book_core.proofs.line_periods.charged_before.Goals as goal

pub loop-turn-preserved : goal.loop-turn-preserved
loop-turn-preserved c =
    c.with_turn-last.ensures
    ∙ charged_more c.args.number c.args.life.now c.loop-turn.turn-index _ c.loop-turn.last
    c.loop-turn-test.true c.loop-turn.invariant
