use Rattle.std.proofs.Common.{sym, ap, ◌∙◌}
use Rattle.tariff_rules.specs.ShiftConflict.{disagrees_with}
use Rattle.tariff_rules.specs.Terms.{ShiftRule}
use Rattle.tariff_rules.proofs.SearchLemmas.{any_passes, fails_more, none_passes}
use Rattle.tariff_rules.proofs.shift.Shift.disagrees_with_any.Goals as goal

pub returns-then-disagrees_with : goal.returns-then-disagrees_with
returns-then-disagrees_with c =
    any_passes (λ (rule : ShiftRule). disagrees_with c.args.self.now rule.shift)
    c.args.rules.now c.loop-rule.rule-index c.rule-item.result c.loop-rule-test.true
    (ap (λ (rule : ShiftRule). disagrees_with c.args.self.now rule.shift)
    (sym (c.rule.view_is ∙ c.rule-item.is))
    ∙ sym c.disagrees_with.ensures ∙ c.if-disagrees_with.true)

pub loop-rule-preserved : goal.loop-rule-preserved
loop-rule-preserved c =
    fails_more (λ (rule : ShiftRule). disagrees_with c.args.self.now rule.shift)
    c.args.rules.now c.loop-rule.rule-index c.rule-item.result c.loop-rule-test.true
    c.loop-rule.invariant
    (ap (λ (rule : ShiftRule). disagrees_with c.args.self.now rule.shift)
    (sym (c.rule.view_is ∙ c.rule-item.is))
    ∙ sym c.disagrees_with.ensures ∙ c.if-disagrees_with.false)

pub returns : goal.returns
returns c =
    none_passes (λ (rule : ShiftRule). disagrees_with c.args.self.now rule.shift)
    c.args.rules.now c.loop-rule.rule-index c.loop-rule-test.false c.loop-rule.invariant
