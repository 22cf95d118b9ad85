use Rattle.std.proofs.Common.{[]}
use Rattle.tariff_rules.proofs.SearchLemmas.{AreFailed}
use Rattle.plain_ledger.specs.Choices.{withholds}
use Rattle.plain_ledger.specs.Plain.{rulings_of}
use Rattle.plain_ledger.proofs.choices.was_withheld.Given as goal

-- none so far says that
abbrev pub invariant-loop-choice : goal.invariant-loop-choice
invariant-loop-choice l =
    AreFailed (withholds (rulings_of [] l.adopted) l.identity) l.choices l.choice-index
