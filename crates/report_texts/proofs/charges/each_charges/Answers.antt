use Rattle.std.proofs.Common.{◌∙◌, ap, map, take_all}
use Rattle.report_texts.specs.Charges.{centres_of}
use Rattle.report_texts.proofs.CentreAmountLemmas.{all_charged, charged_by}
use Rattle.report_texts.proofs.charges.each_charges.Goals as goal

-- that is what all centres are charged
pub returns : goal.returns
returns c =
    let args = c.args in
    let amounts = c.in_ok-amounts.amounts in
    c.loop-centre.invariant
    ∙ ap (map (charged_by amounts))
    (take_all _ _ c.loop-centre-test.false ∙ c.deref-centre-items.ensures.value
    ∙ c.in_ok-centres.ensures)
    ∙ all_charged amounts args.steps.now args.jobs.now args.lines.now args.credits.now
    (centres_of args.steps.now args.jobs.now args.lines.now args.credits.now) c.in_ok-amounts.ensures
