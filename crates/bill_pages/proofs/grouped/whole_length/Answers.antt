use Rattle.std.proofs.Common.{sym, ◌∙◌}
use Rattle.bill_pages.proofs.GroupedLemmas.{counted_all, counted_more, counted_to_end}
use Rattle.bill_pages.proofs.grouped.whole_length.Goals as goal

pub returns-then-not-is_whole : goal.returns-then-not-is_whole
returns-then-not-is_whole c =
    counted_all c.args.text.now c.loop-before.before 0 c.loop-before-test.true
    c.loop-before.invariant (sym c.is_whole.ensures ∙ c.if-not-is_whole.true)

pub loop-before-preserved : goal.loop-before-preserved
loop-before-preserved c =
    counted_more c.args.text.now c.loop-before.before 0 c.loop-before-test.true
    c.loop-before.invariant (sym c.is_whole.ensures ∙ c.if-not-is_whole.false)

pub returns : goal.returns
returns c =
    counted_to_end c.args.text.now c.loop-before.before c.loop-before-test.false
    c.loop-before.invariant
