use Rattle.std.proofs.Common.{not}
use Rattle.tariff_rules.proofs.SearchLemmas.{AreFailed}
use Rattle.book_model.specs.declared.trail.NamedChoice.{NamedChoice}
use Rattle.table_ledger.proofs.withheld.has_none.Given as goal

-- none so far says so
abbrev pub invariant-loop-choice : goal.invariant-loop-choice
invariant-loop-choice l =
    AreFailed (λ (choice : NamedChoice). not choice.counts) l.choices l.choice-index
