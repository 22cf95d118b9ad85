use Rattle.tariff_rules.specs.Price.{applies_to}
use Rattle.tariff_rules.proofs.SearchLemmas.{AreFailed}
use Rattle.tariff_rules.proofs.centre.centre_rule.Given as goal

-- no rule so far applies to the record
abbrev pub invariant-loop-before : goal.invariant-loop-before
invariant-loop-before l = AreFailed (applies_to l.usage) l.rules l.before
