use Rattle.tariff_rules.specs.ShiftConflict.{disagrees_with}
use Rattle.tariff_rules.proofs.SearchLemmas.{AreFailed}
use Rattle.tariff_rules.proofs.shift.Shift.disagrees_with_any.Given as goal

-- the shift of no rule so far disagrees with this one
abbrev pub invariant-loop-rule : goal.invariant-loop-rule
invariant-loop-rule l =
    AreFailed (λ rule. disagrees_with l.self rule.shift) l.rules l.rule-index
