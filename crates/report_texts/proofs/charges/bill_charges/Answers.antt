use Rattle.std.proofs.Common.{◌≡◌, ◌∙◌, ap, map, subst, sym}
use Rattle.book_model.specs.Words.{bill_shown, credit_shown}
use Rattle.report_texts.specs.Charges.{FitCharges, FitCredits, all_charges, plain_credits}
use Rattle.report_texts.specs.Charges.{plain_lines}
use Rattle.report_texts.proofs.ChargeLemmas.{bill_fits}
use Rattle.report_texts.proofs.charges.bill_charges.Goals as goal

-- the plain lines are those of the bill, which can be shown
pub charges_of-requires-clause-lines : goal.charges_of-requires-clause-lines
charges_of-requires-clause-lines c =
    rw (c.deref-5.ensures.value, c.in_ok-lines.ensures, c.deref.ensures.value) c.requires.lines

-- and so are the credits
pub charges_of-requires-clause-credits : goal.charges_of-requires-clause-credits
charges_of-requires-clause-credits c =
    subst FitCredits
    (sym (c.deref-6.ensures.value
    ∙ c.in_ok-credits.ensures
    ∙ ap (λ credits. plain_credits (map credit_shown credits)) c.deref-2.ensures.value))
    c.requires.credits

-- so the charges are those of the bill
pub returns-clause-charges : goal.returns-clause-charges
returns-clause-charges c =
    rw (
      c.deref-3.ensures.value,
      c.deref-4.ensures.value,
      c.deref-5.ensures.value ∙ c.in_ok-lines.ensures ∙ ap plain_lines c.deref.ensures.value,
      c.deref-6.ensures.value
          ∙ c.in_ok-credits.ensures
          ∙ ap (λ credits. plain_credits (map credit_shown credits)) c.deref-2.ensures.value,
    ) at c.charges_of.ensures

-- and they fit
pub returns-clause-fits : goal.returns-clause-fits
returns-clause-fits c =
    let is : c.charges_of.result ≡ all_charges (bill_shown c.args.bill.now) =
    rw (
      c.deref-3.ensures.value,
      c.deref-4.ensures.value,
      c.deref-5.ensures.value ∙ c.in_ok-lines.ensures ∙ ap plain_lines c.deref.ensures.value,
      c.deref-6.ensures.value
          ∙ c.in_ok-credits.ensures
          ∙ ap (λ credits. plain_credits (map credit_shown credits)) c.deref-2.ensures.value,
    ) at c.charges_of.ensures in
    subst FitCharges (sym is) (bill_fits _ c.requires)
