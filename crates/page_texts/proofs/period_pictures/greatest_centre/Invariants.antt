use Rattle.std.proofs.Common.{◌≡◌, drop, map}
use Rattle.std.specs.List.{fold}
use Rattle.std.specs.Prelude.{max}
use Rattle.report_texts.specs.declared.charges.CentreCharges.{CentreCharges}
use Rattle.page_texts.specs.Bars.{greatest}
use Rattle.page_texts.proofs.period_pictures.greatest_centre.Given as goal

-- the greatest so far and of the other costs is the greatest of all
abbrev pub invariant-loop-cost : goal.invariant-loop-cost
invariant-loop-cost l =
    fold max l.most (map (λ (cost : CentreCharges). cost.charges.steps) (drop l.cost-index l.costs))
    ≡ greatest (λ (cost : CentreCharges). cost.charges.steps) l.costs
