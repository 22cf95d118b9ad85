use Rattle.std.proofs.Common.{◌≡◌, ◌≤◌, ◌++◌, drop}
use Rattle.page_texts.specs.Bars.{bars_from, picture_width}
use Rattle.page_texts.proofs.bars.push_centre_bars.Given as goal

-- with the bars of the other centres it is all that is to be appended
abbrev pub invariant-loop-index : goal.invariant-loop-index
invariant-loop-index l = record {
  text : l.out
      ++ bars_from l.most l.costs.entries l.index l.start (drop l.index l.centres)
      ≡ l.initial.out ++ bars_from l.most l.costs.entries 0 0 l.centres;
  within : l.start ≤ picture_width;
}
