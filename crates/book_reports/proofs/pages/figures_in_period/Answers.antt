use Rattle.std.proofs.Common.{refl, rules, ◌≡◌, ◌∙◌, List, ap, map, subst, sym}
use Rattle.book_model.specs.declared.bill.Credit.{Credit}
use Rattle.book_model.specs.Words.{credit_shown}
use Rattle.report_texts.specs.Charges.{FitCredits, plain_credits}
use Rattle.book_reports.proofs.PageLemmas.{figures_known}
use Rattle.book_reports.proofs.Words.{figures_of, figures_seen, call_failed, passed_on, answers}
use Rattle.book_reports.proofs.Words.{answers_none, both_shown, refused_next, shown, then_stays}
use Rattle.book_reports.proofs.pages.figures_in_period.Goals as goal

pub returns-in_err-rows : goal.returns-in_err-rows
returns-in_err-rows g c =
    call_failed c.from_residual.result c.from_residual.ensures.1 (λ book. refl) (λ book. refl)
    (λ book is. cc is) c.in_err-rows.ensures.rows

pub returns-in_err-lines : goal.returns-in_err-lines
returns-in_err-lines g c =
    refused_next c.from_residual-in_err-lines.result c.from_residual-in_err-lines.ensures.1
    (λ book. refl) (λ book. refl) (λ book known is. cc is)
    (shown (λ book. refl) c.in_ok-rows.ensures.rows) c.in_err-lines.ensures.lines

-- there is no memory for its credits
pub returns-in_err-own : goal.returns-in_err-own
returns-in_err-own g c =
    rw (passed_on c.from_residual-in_err-own.result c.from_residual-in_err-own.ensures.1)
    (answers_none (λ book. refl)
    (then_stays (λ book. refl) (shown (λ book. refl) c.in_ok-rows.ensures.rows)
    c.in_ok-lines.ensures.lines))

-- they can be shown
pub period_figures-requires-clause-credits : goal.period_figures-requires-clause-credits
period_figures-requires-clause-credits g c =
    subst (λ (credits : List Credit). FitCredits (plain_credits (map credit_shown credits)))
    (sym c.deref-3.ensures.value) c.in_ok-own.ensures.fit

-- there is no memory for what each centre costs
pub returns-in_err-figures : goal.returns-in_err-figures
returns-in_err-figures g c =
    rw (passed_on c.from_residual-in_err-figures.result c.from_residual-in_err-figures.ensures.1)
    (answers_none (λ book. refl)
    (then_stays (λ book. refl) (shown (λ book. refl) c.in_ok-rows.ensures.rows)
    c.in_ok-lines.ensures.lines))

pub returns : goal.returns
returns g c =
    let naming = (g.L.Ledger.seen c.args.ledger.now).naming in
    let rows = shown (λ book. refl) c.in_ok-rows.ensures.rows in
    let both = both_shown (λ book. refl) rows (rw rows.work.naming at c.in_ok-lines.ensures.lines) in
    let made : figures_seen c.in_ok-figures.figures
    ≡ figures_of c.in_ok-rows.rows.items c.in_ok-lines.lines.items
    (map credit_shown c.in_ok-own.own.items) = search rules in
    let by_all = made ∙ ap (figures_of c.in_ok-rows.rows.items c.in_ok-lines.lines.items)
    c.in_ok-own.ensures.credits in
    answers c.in_ok-figures.figures (λ book. refl)
    (λ book known. figures_known naming c.args.period (map credit_shown c.args.credits.now) _ _ _ book
    by_all known.first known.next) both
