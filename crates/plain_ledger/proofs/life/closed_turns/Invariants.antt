use Rattle.std.proofs.Common.{◌≡◌, take}
use Rattle.plain_ledger.specs.PlainLives.{closed_shares, turns_at}
use Rattle.plain_ledger.proofs.life.closed_turns.Given as goal

-- the turns so far are those of the periods so far
abbrev pub invariant-loop-at : goal.invariant-loop-at
invariant-loop-at l = l.turns.items ≡ turns_at 1 (closed_shares l.name (take l.at l.closed))
