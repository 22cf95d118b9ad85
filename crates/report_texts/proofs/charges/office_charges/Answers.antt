use Rattle.std.proofs.Common.{◌≡◌, ◌∙◌, ap, map, subst, sym}
use Rattle.std.specs.Prelude.{All}
use Rattle.book_model.specs.Words.{bill_shown, credit_shown}
use Rattle.report_texts.specs.Charges.{FitCharges, FitCredits, all_charges, each_charges, plain_credits}
use Rattle.report_texts.specs.Charges.{plain_lines}
use Rattle.report_texts.specs.declared.charges.CentreCharges.{CentreCharges}
use Rattle.report_texts.proofs.ChargeLemmas.{bill_fits, each_fits}
use Rattle.report_texts.proofs.charges.office_charges.Goals as goal
use Rattle.report_texts.proofs.charges.office_charges.Goals.{After-charges_of-all}

-- the plain lines are those of the bill, which can be shown
pub each_charges-requires-clause-lines : goal.each_charges-requires-clause-lines
each_charges-requires-clause-lines c =
    rw (c.deref-5.ensures.value, c.in_ok-lines.ensures, c.deref.ensures.value) c.requires.lines

pub charges_of-all-requires-clause-lines : goal.charges_of-all-requires-clause-lines
charges_of-all-requires-clause-lines c =
    rw (c.deref-9.ensures.value, c.in_ok-lines.ensures, c.deref.ensures.value) c.requires.lines

-- and so are the credits
pub each_charges-requires-clause-credits : goal.each_charges-requires-clause-credits
each_charges-requires-clause-credits c =
    subst FitCredits
    (sym (c.deref-6.ensures.value
    ∙ c.in_ok-credits.ensures
    ∙ ap (λ credits. plain_credits (map credit_shown credits)) c.deref-2.ensures.value))
    c.requires.credits

pub charges_of-all-requires-clause-credits : goal.charges_of-all-requires-clause-credits
charges_of-all-requires-clause-credits c =
    subst FitCredits
    (sym (c.deref-10.ensures.value
    ∙ c.in_ok-credits.ensures
    ∙ ap (λ credits. plain_credits (map credit_shown credits)) c.deref-2.ensures.value))
    c.requires.credits

credits_are : (c : After-charges_of-all)
    → c.in_ok-credits.credits.items ≡ plain_credits (bill_shown c.args.bill.now).credits
credits_are c =
    c.in_ok-credits.ensures
    ∙ ap (λ credits. plain_credits (map credit_shown credits)) c.deref-2.ensures.value

-- so the charges are those of the bill
each_is : (c : After-charges_of-all)
    → c.in_ok-each.each.items ≡ each_charges (bill_shown c.args.bill.now)
each_is c =
    rw (
      c.deref-3.ensures.value,
      c.deref-4.ensures.value,
      c.deref-5.ensures.value ∙ c.in_ok-lines.ensures ∙ ap plain_lines c.deref.ensures.value,
      c.deref-6.ensures.value ∙ credits_are c,
    ) at c.in_ok-each.ensures

all_is : (c : After-charges_of-all)
    → c.charges_of-all.result ≡ all_charges (bill_shown c.args.bill.now)
all_is c =
    rw (
      c.deref-7.ensures.value,
      c.deref-8.ensures.value,
      c.deref-9.ensures.value ∙ c.in_ok-lines.ensures ∙ ap plain_lines c.deref.ensures.value,
      c.deref-10.ensures.value ∙ credits_are c,
    ) at c.charges_of-all.ensures

pub returns-clause-each : goal.returns-clause-each
returns-clause-each c = each_is (goal.at.returns-clause-each c).After-charges_of-all

pub returns-clause-all : goal.returns-clause-all
returns-clause-all c = all_is (goal.at.returns-clause-all c).After-charges_of-all

-- and they fit
pub returns-clause-each_fits : goal.returns-clause-each_fits
returns-clause-each_fits c =
    subst (All (λ (one : CentreCharges). FitCharges one.charges))
    (sym (each_is (goal.at.returns-clause-each_fits c).After-charges_of-all))
    (each_fits _ c.requires)

pub returns-clause-all_fits : goal.returns-clause-all_fits
returns-clause-all_fits c =
    subst FitCharges (sym (all_is (goal.at.returns-clause-all_fits c).After-charges_of-all))
    (bill_fits _ c.requires)
