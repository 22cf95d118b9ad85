use Rattle.std.proofs.Common.{◌≡◌, ◌++◌, drop}
use Rattle.page_texts.specs.OfficePage.{legend_from}
use Rattle.page_texts.proofs.legend.push_items.Given as goal

-- with the lines of the other centres it is all that is to be appended
abbrev pub invariant-loop-index : goal.invariant-loop-index
invariant-loop-index l =
    l.out ++ legend_from l.index (drop l.index l.centres)
    ≡ l.initial.out ++ legend_from 0 l.centres
