use Rattle.std.specs.Prelude.{int_lt}
use Rattle.tariff_rules.proofs.SearchLemmas.{ArePassed}
use Rattle.book_core.proofs.accepted_tariff.are_before.Given as goal

-- each so far begins before the other
abbrev pub invariant-loop-accepted : goal.invariant-loop-accepted
invariant-loop-accepted l =
    ArePassed (λ tariff. int_lt tariff.terms.effective l.other.effective) l.tariffs
    l.accepted-index
