use Rattle.std.proofs.Common.{◌≡◌, take}
use Rattle.page_texts.specs.Figures.{costs_of}
use Rattle.page_texts.proofs.figures.costs_of.Given as goal

-- the map holds what the rows so far cost
abbrev pub invariant-loop-row : goal.invariant-loop-row
invariant-loop-row l = l.costs.entries ≡ costs_of (take l.row-index l.rows)
