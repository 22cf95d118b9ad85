use Rattle.std.proofs.Common.{◌∙◌, ap, arith, sum_by, take_all}
use Rattle.book_model.specs.declared.bill.Credit.{Credit}
use Rattle.book_model.specs.Words.{credit_shown}
use Rattle.book_reports.specs.BillCredits.{size_of}
use Rattle.book_reports.proofs.BillCreditLemmas.{sizes_made}
use Rattle.book_reports.proofs.bill_credits.fit_credits.Goals as goal

-- that is what all come to
pub returns : goal.returns
returns c =
    let credits = c.args.credits.now in
    let all = c.loop-credit.invariant
    ∙ ap (sum_by (λ (credit : Credit). size_of (credit_shown credit)))
    (take_all c.loop-credit.credit-index credits c.loop-credit-test.false) in
    let made = sizes_made credits in
    omega (arith, all, made, c.if-sum-ge-CREDITS_END.false)
