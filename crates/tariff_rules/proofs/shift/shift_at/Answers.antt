use Rattle.std.proofs.Common.{◌≡◌, rules, sym, ap, ◌∙◌}
use Rattle.std.specs.List.{find}
use Rattle.smf_text.specs.Day.{weekday_of}
use Rattle.tariff_rules.specs.Price.{has_moment, minute_of, shift_by}
use Rattle.tariff_rules.specs.Terms.{ShiftRule}
use Rattle.tariff_rules.proofs.SearchLemmas.{fails_more, has_no_first, is_first}
use Rattle.tariff_rules.proofs.shift.shift_at.Goals as goal

pub returns-then-has_moment-clause-value : goal.returns-then-has_moment-clause-value
returns-then-has_moment-clause-value c =
    let day : c.weekday-day.result ≡ weekday_of c.args.moment.day = search rules in
    ap (λ (rule : ShiftRule). rule.shift) (c.rule.view_is ∙ c.rule-item.is)
    ∙ ap shift_by (is_first (has_moment c.weekday-day.result (minute_of c.args.moment.time))
    c.args.rules.now c.loop-rule.rule-index c.rule-item.result c.loop-rule-test.true
    c.loop-rule.invariant
    (rw (← c.rule-item.is) (sym c.has_moment.ensures ∙ c.if-has_moment.true)))
    ∙ ap (λ day. shift_by (find (has_moment day (minute_of c.args.moment.time)) c.args.rules.now))
    day

pub loop-rule-preserved : goal.loop-rule-preserved
loop-rule-preserved c =
    fails_more (has_moment c.weekday-day.result (minute_of c.args.moment.time)) c.args.rules.now
    c.loop-rule.rule-index c.rule-item.result c.loop-rule-test.true c.loop-rule.invariant
    (rw (← c.rule-item.is) (sym c.has_moment.ensures ∙ c.if-has_moment.false))

pub returns-clause-value : goal.returns-clause-value
returns-clause-value c =
    let day : c.weekday-day.result ≡ weekday_of c.args.moment.day = search rules in
    c.base.ensures
    ∙ ap shift_by (has_no_first (has_moment c.weekday-day.result (minute_of c.args.moment.time))
    c.args.rules.now c.loop-rule.rule-index c.loop-rule-test.false c.loop-rule.invariant)
    ∙ ap (λ day. shift_by (find (has_moment day (minute_of c.args.moment.time)) c.args.rules.now))
    day
