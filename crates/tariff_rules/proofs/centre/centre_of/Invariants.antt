use Rattle.tariff_rules.specs.Price.{applies_to}
use Rattle.tariff_rules.proofs.SearchLemmas.{AreFailed}
use Rattle.tariff_rules.proofs.centre.centre_of.Given as goal

-- no rule so far applies to the record
abbrev pub invariant-loop-rule : goal.invariant-loop-rule
invariant-loop-rule l = AreFailed (applies_to l.usage) l.rules l.rule-index
