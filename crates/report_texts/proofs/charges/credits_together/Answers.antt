use Rattle.std.proofs.Common.{◌∙◌, List, ap, subst, sum_by, sym}
use Rattle.report_texts.specs.Charges.{FitCredits}
use Rattle.report_texts.specs.declared.charges.CreditAmount.{CreditAmount}
use Rattle.report_texts.proofs.charges.credits_together.Goals as goal

-- they can be shown
pub credit_sums-requires : goal.credit_sums-requires
credit_sums-requires c =
    subst FitCredits (sym (c.deref.ensures.value ∙ c.in_ok-plain.ensures)) c.requires

-- they are summed by their plain amounts
pub returns : goal.returns
returns c =
    c.credit_sums.ensures
    ∙ ap (λ (credits : List CreditAmount). (
      sum_by (λ credit. credit.credited) credits,
      sum_by (λ credit. credit.debited) credits,
    ))
    (c.deref.ensures.value ∙ c.in_ok-plain.ensures)
