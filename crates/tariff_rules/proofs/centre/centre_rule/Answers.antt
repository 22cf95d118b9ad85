use Rattle.std.proofs.Common.{sym, ◌∙◌}
use Rattle.tariff_rules.specs.Price.{applies_to}
use Rattle.tariff_rules.proofs.SearchLemmas.{fails_more, has_no_number, is_number}
use Rattle.tariff_rules.proofs.centre.centre_rule.Goals as goal

pub returns-then-applies_to : goal.returns-then-applies_to
returns-then-applies_to c =
    let rule = c.index-rules-before in
    is_number (applies_to c.args.usage.now) c.args.rules.now c.loop-before.before rule.result
    c.loop-before-test.true c.loop-before.invariant
    (rw (← rule.is) (sym c.applies_to.ensures ∙ c.if-applies_to.true))

pub loop-before-preserved : goal.loop-before-preserved
loop-before-preserved c =
    let rule = c.index-rules-before in
    fails_more (applies_to c.args.usage.now) c.args.rules.now c.loop-before.before rule.result
    c.loop-before-test.true c.loop-before.invariant
    (rw (← rule.is) (sym c.applies_to.ensures ∙ c.if-applies_to.false))

pub returns : goal.returns
returns c =
    has_no_number (applies_to c.args.usage.now) c.args.rules.now c.loop-before.before
    c.loop-before-test.false c.loop-before.invariant
