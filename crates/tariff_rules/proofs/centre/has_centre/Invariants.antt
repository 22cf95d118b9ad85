use Rattle.tariff_rules.specs.Price.{is_of}
use Rattle.tariff_rules.proofs.SearchLemmas.{AreFailed}
use Rattle.tariff_rules.proofs.centre.has_centre.Given as goal

-- no rule so far is the centre's
abbrev pub invariant-loop-rule : goal.invariant-loop-rule
invariant-loop-rule l = AreFailed (is_of l.centre) l.rules l.rule-index
