use Rattle.std.proofs.Common.{◌≡◌, take}
use Rattle.book_model.specs.Words.{charged_before}
use Rattle.book_core.proofs.line_periods.charged_before.Given as goal

-- the period of the last charge among the turns so far
abbrev pub invariant-loop-turn : goal.invariant-loop-turn
invariant-loop-turn l = l.last ≡ charged_before l.number (take l.turn-index l.life)
