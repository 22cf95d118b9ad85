use Rattle.std.proofs.Common.{append_assoc, pos, get_or, w32}
use Rattle.std.proofs.lemmas.Int.{to_z-of_z}
use Rattle.book_model.proofs.DayLemmas.{day_fits}
use Rattle.report_texts.proofs.PeriodLemmas.{one_more_period}
use Rattle.report_texts.proofs.period_lists.push_closed.Goals as goal

-- one more period is one more line
pub loop-before-preserved : goal.loop-before-preserved
loop-before-preserved c =
    let closes = c.args.closes.now in
    let before = c.loop-before.before in
    let inside = c.loop-before-test.true in
    let through = get_or closes before (pos 0) in
    let read = to_z-of_z w32 through (day_fits through (c.requires before (pos 0) inside)) in
    let line = rw read at c.push_period.ensures in
    rw (line, c.loop-before.invariant, one_more_period closes before (pos 0) inside) (simp append_assoc)
