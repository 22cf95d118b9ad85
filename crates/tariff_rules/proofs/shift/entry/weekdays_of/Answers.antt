use Rattle.std.proofs.Common.{◌<◌, length, sym, ◌∙◌, arith}
use Rattle.std.proofs.lemmas.Bool.Decides.{nat_tests}
use Rattle.tariff_rules.proofs.WeekdayLemmas.{all_weekdays, no_weekday, one_more_day}
use Rattle.tariff_rules.proofs.shift.entry.weekdays_of.Goals as goal

pub returns-in-None : goal.returns-in-None
returns-in-None c =
    no_weekday c.args.entries.now c.loop-entry.entry-index c.entry-item.result
    c.loop-entry-test.true (rw (← c.entry-item.is) (sym c.weekday_in.ensures ∙ c.in-None.is))

pub loop-entry-preserved : goal.loop-entry-preserved
loop-entry-preserved c =
    rw c.in_ok-push-in-Some.ensures.items
    (one_more_day c.args.entries.now c.loop-entry.entry-index c.entry-item.result _ _
    c.loop-entry-test.true c.loop-entry.invariant
    (rw (← c.entry-item.is) (sym c.weekday_in.ensures ∙ c.in-Some.is)))

pub returns : goal.returns
returns c =
    let some : 0 < length c.args.entries.now =
    grind (arith, nat_tests, c.is_empty.ensures, c.if-is_empty.false) in
    all_weekdays c.args.entries.now c.loop-entry.entry-index _ some (omega arith)
    c.loop-entry-test.false c.loop-entry.invariant
