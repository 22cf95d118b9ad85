use Rattle.std.proofs.Common.{◌≡◌, rules, sym, ap, ◌∙◌}
use Rattle.smf_text.specs.Day.{weekday_of}
use Rattle.tariff_rules.specs.Price.{has_moment, minute_of}
use Rattle.tariff_rules.specs.Reckoning.{rule_number}
use Rattle.tariff_rules.proofs.SearchLemmas.{fails_more, has_no_number, is_number}
use Rattle.tariff_rules.proofs.shift.shift_rule.Goals as goal

pub returns-then-has_moment : goal.returns-then-has_moment
returns-then-has_moment c =
    let rule = c.index-rules-before in
    let day : c.weekday-day.result ≡ weekday_of c.args.moment.day = search rules in
    is_number (has_moment c.weekday-day.result (minute_of c.args.moment.time)) c.args.rules.now
    c.loop-before.before rule.result c.loop-before-test.true c.loop-before.invariant
    (rw (← rule.is) (sym c.has_moment.ensures ∙ c.if-has_moment.true))
    ∙ ap (λ day. rule_number (has_moment day (minute_of c.args.moment.time)) c.args.rules.now) day

pub loop-before-preserved : goal.loop-before-preserved
loop-before-preserved c =
    let rule = c.index-rules-before in
    fails_more (has_moment c.weekday-day.result (minute_of c.args.moment.time)) c.args.rules.now
    c.loop-before.before rule.result c.loop-before-test.true c.loop-before.invariant
    (rw (← rule.is) (sym c.has_moment.ensures ∙ c.if-has_moment.false))

pub returns : goal.returns
returns c =
    let day : c.weekday-day.result ≡ weekday_of c.args.moment.day = search rules in
    has_no_number (has_moment c.weekday-day.result (minute_of c.args.moment.time))
    c.args.rules.now c.loop-before.before c.loop-before-test.false c.loop-before.invariant
    ∙ ap (λ day. rule_number (has_moment day (minute_of c.args.moment.time)) c.args.rules.now) day
