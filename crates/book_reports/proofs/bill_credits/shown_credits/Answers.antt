use Rattle.std.proofs.Common.{map, refl, subst}
use Rattle.book_model.specs.Words.{credit_shown}
use Rattle.report_texts.specs.Charges.{FitCredits, plain_credits}
use Rattle.book_reports.proofs.Words.{answers_none, call_failed, passed_on, shown}
use Rattle.book_reports.proofs.bill_credits.shown_credits.Goals as goal

-- the list of rulings is refused
pub returns-in_err-credits-clause-credits : goal.returns-in_err-credits-clause-credits
returns-in_err-credits-clause-credits g c =
    call_failed c.from_residual.result c.from_residual.ensures.1 (λ book. refl) (λ book. refl)
    (λ book is. is) c.in_err-credits.ensures

-- there is no room to show them
pub returns-in_err-fit_credits-clause-credits : goal.returns-in_err-fit_credits-clause-credits
returns-in_err-fit_credits-clause-credits g c =
    rw (passed_on c.from_residual-in_err-fit_credits.result
    c.from_residual-in_err-fit_credits.ensures.1)
    (answers_none (λ book. refl) (shown (λ book. refl) c.in_ok-credits.ensures))

-- or these are the credits
pub returns-clause-credits : goal.returns-clause-credits
returns-clause-credits g c = c.in_ok-credits.ensures

pub returns-clause-fit : goal.returns-clause-fit
returns-clause-fit g c =
    subst (λ credits. FitCredits (plain_credits (map credit_shown credits))) c.deref.ensures.value
    c.in_ok-fit_credits.ensures
