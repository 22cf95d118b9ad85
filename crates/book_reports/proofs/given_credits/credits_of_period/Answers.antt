use Rattle.std.proofs.Common.{◌≡◌, ◌∙◌, ◌+◌, ◌++◌, [], ◌∷◌, List, None, ap, map, subst, sym, take}
use Rattle.std.proofs.Common.{take_all}
use Rattle.std.proofs.lemmas.List.{take_more}
use Rattle.std.specs.List.{cons_option}
use Rattle.book_model.proofs.Std.{filter_map-append}
use Rattle.book_model.specs.declared.bill.Credit.{Credit}
use Rattle.book_model.specs.Words.{credit_shown}
use Rattle.report_texts.specs.Charges.{FitCredits, plain_credits}
use Rattle.book_reports.specs.BillCredits.{credit_of, credits_of}
use Rattle.book_reports.proofs.Words.{map_push}
use Rattle.book_reports.proofs.given_credits.credits_of_period.Goals as goal

-- with one more credit
pub loop-credit-preserved : goal.loop-credit-preserved
loop-credit-preserved c =
    let period = c.args.period in
    let credits = c.args.credits.now in
    let index = c.loop-credit.credit-index in
    let credit = c.credit-item.result in
    let read = take index credits in
    let more : read ++ credit ∷ [] ≡ take (index + 1) credits =
    ap (λ (one : Credit). read ++ one ∷ []) c.credit-item.is
    ∙ sym (take_more credits index credit c.loop-credit-test.true) in
    c.in_ok-push_found.ensures
    ∙ (λ i. c.loop-credit.invariant i ++ cons_option (c.in_ok-found.ensures i) [])
    ∙ sym (filter_map-append (credit_of period None) (map credit_shown read)
    (credit_shown credit ∷ []))
    ∙ ap (credits_of period None) (map_push credit_shown read credit ∙ ap (map credit_shown) more)

-- these are all
pub returns-clause-credits : goal.returns-clause-credits
returns-clause-credits c =
    c.loop-credit.invariant
    ∙ ap (λ (credits : List Credit). credits_of c.args.period None (map credit_shown credits))
    (take_all c.loop-credit.credit-index c.args.credits.now c.loop-credit-test.false)

-- and fit
pub returns-clause-fit : goal.returns-clause-fit
returns-clause-fit c =
    subst (λ (credits : List Credit). FitCredits (plain_credits (map credit_shown credits)))
    c.deref.ensures.value c.in_ok-fit_credits.ensures
