use Rattle.std.proofs.Common.{take}
use Rattle.plain_ledger.specs.Choices.{DoCount}
use Rattle.plain_ledger.specs.Plain.{rulings_of}
use Rattle.plain_ledger.proofs.choices.last_counts.Given as goal

-- they say so of the choices so far
abbrev pub invariant-loop-choice : goal.invariant-loop-choice
invariant-loop-choice l =
    DoCount (rulings_of (take l.choice-index l.choices) l.adopted) l.counts
