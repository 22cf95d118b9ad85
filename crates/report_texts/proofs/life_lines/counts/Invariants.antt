use Rattle.std.proofs.Common.{◌≡◌, ◌+◌, take}
use Rattle.book_model.specs.Lives.{charges_in, reversals_in}
use Rattle.report_texts.proofs.life_lines.counts.Given as goal

-- the counts of the periods so far, each of which is in one of them
abbrev pub invariant-loop-turn : goal.invariant-loop-turn
invariant-loop-turn l = record {
  charges : l.charges ≡ charges_in (take l.turn-index l.life);
  reversals : l.reversals ≡ reversals_in (take l.turn-index l.life);
  all : l.charges + l.reversals ≡ l.turn-index;
}
