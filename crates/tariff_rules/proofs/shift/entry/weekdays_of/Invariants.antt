use Rattle.tariff_rules.proofs.WeekdayLemmas.{AreDays}
use Rattle.tariff_rules.proofs.shift.entry.weekdays_of.Given as goal

abbrev pub invariant-loop-entry : goal.invariant-loop-entry
invariant-loop-entry l = AreDays l.entries l.entry-index l.days.items
