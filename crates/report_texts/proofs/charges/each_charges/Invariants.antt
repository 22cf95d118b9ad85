use Rattle.std.proofs.Common.{◌≡◌, map, take}
use Rattle.report_texts.proofs.CentreAmountLemmas.{charged_by}
use Rattle.report_texts.proofs.charges.each_charges.Given as goal

-- what the centres so far are charged is pushed
abbrev pub invariant-loop-centre : goal.invariant-loop-centre
invariant-loop-centre l =
    l.each.items ≡ map (charged_by l.amounts) (take l.centre-index l.centre-items)
