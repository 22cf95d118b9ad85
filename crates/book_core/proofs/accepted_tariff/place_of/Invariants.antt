use Rattle.book_model.specs.Rulings.{is_effective}
use Rattle.tariff_rules.proofs.SearchLemmas.{AreFailed}
use Rattle.book_core.proofs.accepted_tariff.place_of.Given as goal

-- none so far begins on the day of the other
abbrev pub invariant-loop-place : goal.invariant-loop-place
invariant-loop-place l = AreFailed (is_effective l.other.effective) l.tariffs l.place
