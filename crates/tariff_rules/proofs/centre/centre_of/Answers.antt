use Rattle.std.proofs.Common.{sym, ap, ◌∙◌}
use Rattle.tariff_rules.specs.Price.{applies_to, centre_by}
use Rattle.tariff_rules.specs.Terms.{CentreRule}
use Rattle.tariff_rules.proofs.SearchLemmas.{fails_more, has_no_first, is_first}
use Rattle.tariff_rules.proofs.centre.centre_of.Goals as goal

pub returns-then-applies_to-clause-value : goal.returns-then-applies_to-clause-value
returns-then-applies_to-clause-value c =
    ap (λ (rule : CentreRule). rule.centre) (c.rule.view_is ∙ c.rule-item.is)
    ∙ ap centre_by (is_first (applies_to c.args.usage.now) c.args.rules.now
    c.loop-rule.rule-index c.rule-item.result c.loop-rule-test.true c.loop-rule.invariant
    (rw (← c.rule-item.is) (sym c.applies_to.ensures ∙ c.if-applies_to.true)))

pub loop-rule-preserved : goal.loop-rule-preserved
loop-rule-preserved c =
    fails_more (applies_to c.args.usage.now) c.args.rules.now c.loop-rule.rule-index
    c.rule-item.result c.loop-rule-test.true c.loop-rule.invariant
    (rw (← c.rule-item.is) (sym c.applies_to.ensures ∙ c.if-applies_to.false))

pub returns-clause-value : goal.returns-clause-value
returns-clause-value c =
    c.unassigned.ensures
    ∙ ap centre_by (has_no_first (applies_to c.args.usage.now) c.args.rules.now
    c.loop-rule.rule-index c.loop-rule-test.false c.loop-rule.invariant)
