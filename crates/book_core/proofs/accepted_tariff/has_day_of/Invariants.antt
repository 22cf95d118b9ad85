use Rattle.book_model.specs.Rulings.{is_effective}
use Rattle.tariff_rules.proofs.SearchLemmas.{AreFailed}
use Rattle.book_core.proofs.accepted_tariff.has_day_of.Given as goal

-- none so far begins on the day of the other
abbrev pub invariant-loop-accepted : goal.invariant-loop-accepted
invariant-loop-accepted l =
    AreFailed (is_effective l.other.effective) l.tariffs l.accepted-index
