use Rattle.std.proofs.Common.{◌≡◌, ◌++◌, take}
use Rattle.std.specs.List.{flat_map}
use Rattle.page_texts.specs.PeriodPictures.{centre_row}
use Rattle.page_texts.proofs.period_pictures.push_centre_rows.Given as goal

-- the rows of the centres so far are appended
abbrev pub invariant-loop-cost : goal.invariant-loop-cost
invariant-loop-cost l =
    l.out ≡ l.initial.out ++ flat_map (centre_row l.credited l.most) (take l.cost-index l.costs)
