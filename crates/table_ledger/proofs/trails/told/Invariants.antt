use Rattle.std.proofs.Common.{◌≡◌, map, take}
use Rattle.table_ledger.specs.TrailReads.{choice_told}
use Rattle.table_ledger.proofs.trails.told.Given as goal

-- the choices so far are told
abbrev pub invariant-loop-choice : goal.invariant-loop-choice
invariant-loop-choice l = l.told.items ≡ map choice_told (take l.choice-index l.choices)
