use Rattle.tariff_rules.specs.ShiftConflict.{conflicts_with}
use Rattle.tariff_rules.proofs.SearchLemmas.{AreFailed}
use Rattle.tariff_rules.proofs.shift.conflict.has_conflict.Given as goal

-- no rule so far conflicts with another
abbrev pub invariant-loop-rule : goal.invariant-loop-rule
invariant-loop-rule l =
    AreFailed (λ rule. conflicts_with l.rules rule.shift) l.rules l.rule-index
