use Rattle.std.proofs.Common.{take}
use Rattle.plain_ledger.specs.Plain.{HasDisputed, rulings_of}
use Rattle.plain_ledger.proofs.identities.disputed_identities.Given as goal

-- the set has the identities that are shared, and that the choices so far do not settle
abbrev pub invariant-loop-choice : goal.invariant-loop-choice
invariant-loop-choice l =
    HasDisputed (rulings_of (take l.choice-index l.choices) l.adopted) l.held.entries l.disputed
