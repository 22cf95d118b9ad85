use Rattle.tariff_rules.specs.Price.{has_moment}
use Rattle.tariff_rules.proofs.SearchLemmas.{AreFailed}
use Rattle.tariff_rules.proofs.shift.shift_rule.Given as goal

-- no rule so far has the moment
abbrev pub invariant-loop-before : goal.invariant-loop-before
invariant-loop-before l = AreFailed (has_moment l.day l.minute) l.rules l.before
