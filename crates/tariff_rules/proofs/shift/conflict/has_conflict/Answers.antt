use Rattle.std.proofs.Common.{sym, ap, ◌∙◌}
use Rattle.tariff_rules.specs.ShiftConflict.{conflicts_with}
use Rattle.tariff_rules.specs.Terms.{ShiftRule}
use Rattle.tariff_rules.proofs.SearchLemmas.{any_passes, fails_more, none_passes}
use Rattle.tariff_rules.proofs.shift.conflict.has_conflict.Goals as goal

pub returns-then-conflicts_with : goal.returns-then-conflicts_with
returns-then-conflicts_with c =
    any_passes (λ (rule : ShiftRule). conflicts_with c.args.rules.now rule.shift)
    c.args.rules.now c.loop-rule.rule-index c.rule-item.result c.loop-rule-test.true
    (ap (λ (rule : ShiftRule). conflicts_with c.args.rules.now rule.shift)
    (sym (c.rule.view_is ∙ c.rule-item.is))
    ∙ sym c.conflicts_with.ensures ∙ c.if-conflicts_with.true)

pub loop-rule-preserved : goal.loop-rule-preserved
loop-rule-preserved c =
    fails_more (λ (rule : ShiftRule). conflicts_with c.args.rules.now rule.shift)
    c.args.rules.now c.loop-rule.rule-index c.rule-item.result c.loop-rule-test.true
    c.loop-rule.invariant
    (ap (λ (rule : ShiftRule). conflicts_with c.args.rules.now rule.shift)
    (sym (c.rule.view_is ∙ c.rule-item.is))
    ∙ sym c.conflicts_with.ensures ∙ c.if-conflicts_with.false)

pub returns : goal.returns
returns c =
    none_passes (λ (rule : ShiftRule). conflicts_with c.args.rules.now rule.shift)
    c.args.rules.now c.loop-rule.rule-index c.loop-rule-test.false c.loop-rule.invariant
