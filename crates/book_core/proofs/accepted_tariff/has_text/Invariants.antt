use Rattle.book_model.specs.RulingAnswers.{has_text}
use Rattle.tariff_rules.proofs.SearchLemmas.{AreFailed}
use Rattle.book_core.proofs.accepted_tariff.has_text.Given as goal

-- none so far was accepted by the text
abbrev pub invariant-loop-accepted : goal.invariant-loop-accepted
invariant-loop-accepted l = AreFailed (has_text l.text) l.tariffs l.accepted-index
