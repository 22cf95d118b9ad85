use Rattle.std.proofs.Common.{take}
use Rattle.plain_ledger.specs.Choices.{AreLast}
use Rattle.plain_ledger.specs.Plain.{rulings_of}
use Rattle.plain_ledger.proofs.choices.last_chosen.Given as goal

-- the records are those that the choices so far chose last
abbrev pub invariant-loop-choice : goal.invariant-loop-choice
invariant-loop-choice l =
    AreLast (rulings_of (take l.choice-index l.choices) l.adopted) l.records
