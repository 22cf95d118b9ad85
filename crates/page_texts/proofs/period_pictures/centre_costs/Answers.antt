use Rattle.std.proofs.Common.{◌∙◌, subst, sym}
use Rattle.report_texts.specs.Charges.{FitCredits}
use Rattle.page_texts.proofs.period_pictures.centre_costs.Goals as goal

-- they can be shown
pub each_charges-requires-clause-credits : goal.each_charges-requires-clause-credits
each_charges-requires-clause-credits c =
    subst FitCredits (sym (c.deref.ensures.value ∙ c.in_ok-plain.ensures)) c.requires.credits

-- by the plain credits each is charged what is asked for
pub returns : goal.returns
returns c = rw (c.deref.ensures.value ∙ c.in_ok-plain.ensures) at c.each_charges.ensures
