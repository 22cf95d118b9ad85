use Rattle.std.proofs.Common.{◌≡◌, ◌++◌, take, flat_map}
use Rattle.report_texts.specs.LifeLines.{turn_line}
use Rattle.report_texts.proofs.life_lines.push_life.Given as goal

-- the lines of the periods so far are appended
abbrev pub invariant-loop-turn : goal.invariant-loop-turn
invariant-loop-turn l =
    let life = take l.turn-index l.life in
    l.out ≡ l.initial.out ++ flat_map turn_line life
