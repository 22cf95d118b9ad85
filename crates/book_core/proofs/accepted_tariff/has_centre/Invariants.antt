use Rattle.book_model.specs.RulingAnswers.{has_centre}
use Rattle.tariff_rules.proofs.SearchLemmas.{AreFailed}
use Rattle.book_core.proofs.accepted_tariff.has_centre.Given as goal

-- none so far has a rule for the centre
abbrev pub invariant-loop-accepted : goal.invariant-loop-accepted
invariant-loop-accepted l = AreFailed (has_centre l.centre) l.tariffs l.accepted-index
